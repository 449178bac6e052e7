-- `link_byte` meets its contract: the child is the state of the next byte, and its links are put where it is this code's. Assumes nothing.
use native.Mathlib.Omega.{arith}
use Rattle.boards.proofs.Linking.{next_known, next_linked, next_few, next_child, next_kept, next_on, next_put}
use Rattle.boards.proofs.links.Links.link_byte.Goals as goal

pub child-h-requires : goal.child-h-requires
child-h-requires c =
    let p = c.requires in
    record { ws = p.ws; u = p.u; is_tree = p.next.is_tree; known_is = next_known p.next; state_is = p.next.state_is }

pub link_of-f-requires : goal.link_of-f-requires
link_of-f-requires c =
    let p = c.requires in
    record {
      ws = p.ws;
      u = p.u;
      is_tree = p.next.is_tree;
      known_is = next_known p.next;
      state_is = p.next.state_is;
      linked = next_linked p.next;
    }

pub overflow_add-depth : goal.overflow_add-depth
overflow_add-depth c = omega (arith, (next_few c.requires.next).1)

pub link_state-requires : goal.link_state-requires
link_state-requires c =
    let p = c.requires in
    let n = p.next in
    let h = c.child-h.ensures p.ws p.u n.is_tree (next_known n) n.state_is in
    let to = c.link_of-f.ensures p.ws p.u n.is_tree (next_known n) n.state_is (next_linked n) in
    next_on n c.child-h.result h c.link_of-f.result c.if-h-s.true to

pub returns-then-h-s : goal.returns-then-h-s
returns-then-h-s c ws u n =
    let h = c.child-h.ensures ws u n.is_tree (next_known n) n.state_is in
    let to = c.link_of-f.ensures ws u n.is_tree (next_known n) n.state_is (next_linked n) in
    (next_child n c.child-h.result h, next_put n c.child-h.result h c.link_of-f.result c.if-h-s.true to c.link_state.ensures)

pub returns-else-h-s : goal.returns-else-h-s
returns-else-h-s c ws u n =
    let h = c.child-h.ensures ws u n.is_tree (next_known n) n.state_is in
    (next_child n c.child-h.result h, next_kept n c.child-h.result h c.if-h-s.false)
