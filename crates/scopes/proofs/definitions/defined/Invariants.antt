use Rattle.std.proofs.Common.{◌≡◌, drop}
use Rattle.library.specs.Views.{symbol_of}
use Rattle.links.specs.Symbols.{find_def}
use Rattle.linkage.specs.Tables.{library_at}
use Rattle.scopes.proofs.definitions.defined.Given as goal

abbrev pub invariant-loop-i : goal.invariant-loop-i
invariant-loop-i g l = find_def l.mine (drop l.i (library_at (g.L.Libraries.libs l.libraries) l.library.0).defs) (symbol_of (λ x. x.now) l.symbol) ≡ find_def l.mine (library_at (g.L.Libraries.libs l.libraries) l.library.0).defs (symbol_of (λ x. x.now) l.symbol)
