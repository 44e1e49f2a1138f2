-- What a symbol means is a cell of a live module, and has an address.
use Rattle.std.proofs.ByRecursion.{All-append}
use Rattle.std.proofs.lemmas.Option.{slice_get_within}
use Rattle.std.specs.List.{AllByRecursion}
use Rattle.std.specs.Prelude.{None, Option, Some}
use Rattle.std.proofs.Common.{◌≡◌, ℕ, ◌<◌, List, [], ◌∷◌, length, refl, arith}
use Rattle.base.specs.Choices.{opt}
use Rattle.library.specs.Library.{Symbol, Library}
use Rattle.library.specs.Fine.{LibraryFine}
use Rattle.links.specs.Links.{Place, Module}
use Rattle.links.specs.Scope.{live_at, lookup}
use Rattle.links.specs.Load.{places, calls_of}
use Rattle.links.proofs.Keys.{live_inv, look_in, find_def_in}
use Rattle.meaning.specs.State.{place_of}
use Rattle.simulation.specs.Layout.{Layout, size_of, Ground, Fits, FitsPlace}

module _ (k : Layout) (ms : List Module) (u total : ℕ) (g : Ground k ms u total) where
  lookup_fits : (me : ℕ) (y : Symbol) (js : List ℕ) (p : Place) → lookup ms me y js ≡ Some p → (p.host < length k.bases) × (p.cell < size_of k p.host)
  lookup_fits me y js p e = let x = look_in ms me y js p e in let d = find_def_in x.1 x.0.lib.defs y (length x.0.lib.cells) p.cell (g.fine p.host x.0 x.2).defs x.4 in (omega (arith, slice_get_within ms p.host x.0 x.2, g.count), omega (arith, d, g.sized p.host x.0 x.2))

  -- n cells behind it
  pub place_fits : (me n : ℕ) (y : Symbol) (js : List ℕ) → n < 4294967296 → Fits k (place_of (lookup ms me y js) n)
  place_fits me n y js h = go (lookup ms me y js) refl
    where
      go : (o : Option Place) → lookup ms me y js ≡ o → Fits k (place_of o n)
      go None e = omega arith
      go (Some p) e = let f = lookup_fits me y js p e in (f.0, omega (arith, f.1, g.placed.last p.host f.0, g.placed.few))

  pub found_fits : (me : ℕ) (y : Symbol) (js : List ℕ) (p : Place) → lookup ms me y js ≡ Some p → FitsPlace k p
  found_fits me y js p e = let f = lookup_fits me y js p e in (f.0, omega (arith, f.1, g.placed.last p.host f.0, g.placed.few))

  -- inits and finis that are called are there
  spots_fit : (i : ℕ) (js : List ℕ) → i < length k.bases → AllByRecursion (λ j. j < size_of k i) js → AllByRecursion (FitsPlace k) (places i js)
  spots_fit i [] h f = tt
  spots_fit i (j ∷ js) h f = ((h, omega (arith, f.0, g.placed.last i h, g.placed.few)), spots_fit i js h f.1)

  pub calls_fit : (f : Library → List ℕ) → ((l : Library) → LibraryFine l → AllByRecursion (λ j. j < length l.cells) (f l)) → (js : List ℕ) → AllByRecursion (FitsPlace k) (calls_of f ms js)
  calls_fit f h [] = tt
  calls_fit f h (j ∷ js) = All-append (FitsPlace k) (opt (live_at ms j) [] (λ x. places j (f x.lib))) (calls_of f ms js) (go (live_at ms j) refl) (calls_fit f h js)
    where
      go : (o : Option Module) → live_at ms j ≡ o → AllByRecursion (FitsPlace k) (opt o [] (λ x. places j (f x.lib)))
      go None e = tt
      go (Some x) e = let p = live_inv ms j x e in spots_fit j (f x.lib) (omega (arith, slice_get_within ms j x p.0, g.count)) (rw (g.sized j x p.0) (h x.lib (g.fine j x p.0)))
