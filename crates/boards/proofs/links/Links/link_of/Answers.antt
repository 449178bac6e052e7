-- `link_of` meets its contract: after state 0 it is state 0, else a step from the failure link. Assumes nothing.
use mathlib.Core.Path.{sym, ◌∙◌}
use native.Mathlib.Omega.{arith}
use Rattle.starts.specs.Starts.{fallback}
use Rattle.starts.proofs.Ends.{fallback_known}
use Rattle.boards.proofs.Linking.{state_few, link_to, link_linked, link_none, link_next}
use Rattle.boards.proofs.links.Links.link_of.Goals as goal

pub returns-then-g-eq0 : goal.returns-then-g-eq0
returns-then-g-eq0 c ws u t k e l = link_none ws u c.args.byte k (e ∙ c.if-g-eq0.true)

pub overflow_mul-g : goal.overflow_mul-g
overflow_mul-g c = let p = c.requires in omega (arith, state_few p.u p.is_tree p.known_is p.state_is)

pub offset_bounds-self-g : goal.offset_bounds-self-g
offset_bounds-self-g c = let p = c.requires in omega (arith, state_few p.u p.is_tree p.known_is p.state_is)

pub bounds-self-g : goal.bounds-self-g
bounds-self-g c =
    let p = c.requires in
    omega (arith, state_few p.u p.is_tree p.known_is p.state_is)

pub step-requires : goal.step-requires
step-requires c =
    let p = c.requires in
    record {
      ws = p.ws;
      u = fallback p.ws p.u;
      is_tree = p.is_tree;
      known_is = fallback_known p.ws p.u;
      state_is = sym (link_to p.u c.from.result p.linked p.known_is (omega arith) p.state_is c.from.ensures);
      linked = link_linked p.u p.linked;
    }

pub returns : goal.returns
returns c ws u t k e l =
    let to = link_to u c.from.result l k (omega arith) e c.from.ensures in
    link_next ws u c.args.byte c.step.result (λ z. c.if-g-eq0.false (sym e ∙ z))
    (c.step.ensures ws (fallback ws u) t (fallback_known ws u) (sym to) (link_linked u l))
