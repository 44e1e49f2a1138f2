use Rattle.std.proofs.Common.{◌≡◌, List, ◌++◌, drop, length}
use Rattle.std.specs.Prelude.{filter}
use Rattle.library.specs.Library.{Library}
use Rattle.lent.specs.Numbers.{numbers}
use Rattle.linkage.specs.Tables.{links_of}
use Rattle.lent.specs.Tables.{column}
use Rattle.closes.specs.Leaving.{goes, leavers}
use Rattle.closes.proofs.leaving.leaving.Given as goal

abbrev pub invariant-loop-row : goal.invariant-loop-row
invariant-loop-row l = record {
  so_far : (ls : List Library) → column l.left ++ filter (goes (links_of ls l.tables).modules (numbers l.stays)) (drop l.row (links_of ls l.tables).order) ≡ leavers (links_of ls l.tables) (numbers l.stays);
  size : length l.left.words.now ≡ length l.fn.words;
}
