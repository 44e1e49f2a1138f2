use Rattle.std.proofs.Common.{◌≡◌}
use Rattle.linkage.specs.Tables.{library_at, links_of}
use Rattle.refs.specs.Unmet.{first_unmet}
use Rattle.refs.proofs.Missing.{unmet_from}
use Rattle.refs.proofs.unmet.unmet_in.Given as goal

abbrev pub invariant-loop-i : goal.invariant-loop-i
invariant-loop-i g l = unmet_from (links_of (g.L.Libraries.libs l.libraries) l.tables) l.me l.i (library_at (g.L.Libraries.libs l.libraries) l.library.0).cells ≡ first_unmet (links_of (g.L.Libraries.libs l.libraries) l.tables) l.me (library_at (g.L.Libraries.libs l.libraries) l.library.0).cells
