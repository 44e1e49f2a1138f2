use Rattle.std.proofs.Common.{◌≡◌, List, drop}
use Rattle.library.specs.Library.{Library}
use Rattle.lent.specs.Numbers.{numbers}
use Rattle.linkage.specs.Tables.{links_of}
use Rattle.lent.specs.Tables.{column}
use Rattle.closes.specs.Leaving.{needless, gone}
use Rattle.closes.proofs.unloading.unload.Given as goal

abbrev pub invariant-loop-row : goal.invariant-loop-row
invariant-loop-row l = (ls : List Library) → gone (needless (numbers l.stays) (drop l.row (column l.going))) (links_of ls l.tables) ≡ gone (needless (numbers l.stays) (column l.going)) (links_of ls l.initial.tables)
