-- `link_state` meets its contract: the state has a code of its own, or none. Assumes nothing.
use mathlib.Core.Path.{sym, ◌∙◌}
use Rattle.boards.proofs.Linking.{put_none, put_own}
use Rattle.boards.proofs.links.Links.link_state.Goals as goal

pub returns-then-own-eq0 : goal.returns-then-own-eq0
returns-then-own-eq0 c =
    let k = c.args.self.now in
    put_none k.links k.nearest k.shorter c.args.g c.args.f c.args.depth (sym c.from-own.ensures ∙ c.if-own-eq0.true)

pub returns-else-own-eq0 : goal.returns-else-own-eq0
returns-else-own-eq0 c =
    let k = c.args.self.now in
    put_own k.links k.nearest k.shorter c.args.g c.args.f c.args.depth c.from-own.result c.from-own.ensures c.if-own-eq0.false
