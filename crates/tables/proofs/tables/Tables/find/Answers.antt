use Rattle.std.specs.Prelude.{Some}
use Rattle.std.proofs.Common.{◌<◌, length, sym, refl, arith}
use Rattle.tables.specs.Store.{libraries}
use Rattle.tables.proofs.Looking.{count_is}
use Rattle.tables.proofs.Walks.{Passed, walk_start, newest_first, walk_on, walk_falls, walk_end, passed_some, left_some}
use Rattle.tables.proofs.tables.Tables.find.Goals as goal

pub loop-at-init : goal.loop-at-init
loop-at-init c = walk_start (libraries c.args.self.now) c.args.name.now (length c.args.names.now.heads.now) c.args.self.now.libs.len c.bucket.result c.first-at.result (count_is c.args.self.now) c.bucket.ensures.value (newest_first _ c.args.names.now.heads.now _ _ _ c.first-at.ensures.value (c.first-at.ensures.newest _ _ c.requires.named.holds) c.bucket.ensures.bound c.requires.named.within)

here : (c : goal.After-older-at) → Passed (libraries c.args.self.now) c.args.name.now (length c.args.names.now.heads.now) (Some c.in-Some.k)
here c = passed_some _ _ _ c.in-Some.k _ c.loop-at.invariant (c.in-Some.is)

within : (c : goal.After-older-at) → c.in-Some.k < c.args.self.now.libs.len
within c = let l = count_is c.args.self.now in let p = (here c).0 in omega arith

pub loop-at-smaller : goal.loop-at-smaller
loop-at-smaller c = let l = left_some c.in-Some.k _ (c.in-Some.is) in let f = walk_falls _ _ _ _ (c.older-at.ensures.newest _ _ _ c.requires.named.holds (within c) refl) in omega arith

pub loop-at-preserved : goal.loop-at-preserved
loop-at-preserved c = walk_on _ _ _ _ _ (here c) (sym c.if-is_named.ensures) (c.older-at.ensures.newest _ _ _ c.requires.named.holds (within c) refl)

pub returns : goal.returns
returns c = walk_end _ _ _ _ c.loop-at.invariant (c.in_default.is)
