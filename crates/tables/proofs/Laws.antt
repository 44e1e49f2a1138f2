-- Libraries stay what they are while rows are added.
use Rattle.std.proofs.Common.{◌≡◌, ℕ, ◌≤◌, List, [], ◌∷◌, ◌++◌, map, length, get_or, drop, sym, refl, ap, ◌∙◌, subst, arith}
use Rattle.std.specs.List.{between, AllByRecursion}
use Rattle.std.proofs.lemmas.List.{length-append, drop-append-le, take-append-le, map_push}
use Rattle.std.proofs.lemmas.Slice.{between_is}
use Rattle.std.proofs.ByRecursion.{All-push}
use Rattle.base.specs.Names.{Name}
use Rattle.library.specs.Library.{Definition, Cell, Library}
use Rattle.library.specs.Lines.{needs, define, init, fini, cell}
use Rattle.library.specs.Text.{apply}
use Rattle.tables.specs.declared.draft.Draft.{Draft}
use Rattle.tables.specs.Store.{Store, library_at, library_from, Inside, Starts, Sound, done}
use Rattle.tables.specs.Steps.{Ext}

-- the first rows stay what they are
between_ext : {X : Type 0} (a b : ℕ) (xs ys zs : List X) → ys ≡ xs ++ zs → b ≤ length xs → between a b ys ≡ between a b xs
between_ext a b xs ys zs e h = ap (between a b) e ∙ between_is (xs ++ zs) a b ∙ ap (drop a) (take-append-le b xs zs h) ∙ sym (between_is xs a b)

longer : {X : Type 0} (n : ℕ) (xs ys zs : List X) → ys ≡ xs ++ zs → n ≤ length xs → n ≤ length ys
longer n xs ys zs e h = let l = ap length e ∙ length-append xs zs in omega arith

pub library_kept : (s u : Store) (r : List ℕ) → Ext s u → Inside s r → library_at u r ≡ library_at s r
unfolding library_at
library_kept s u r x h =
    let a = x.text in
    let b = between_ext (get_or r 3 0) (get_or r 4 0) s.needs u.needs x.needs.0 x.needs.1 h.needs in
    let c = between_ext (get_or r 5 0) (get_or r 6 0) s.defs u.defs x.defs.0 x.defs.1 h.defs in
    let d = between_ext (get_or r 7 0) (get_or r 8 0) s.inits u.inits x.inits.0 x.inits.1 h.inits in
    let e = between_ext (get_or r 9 0) (get_or r 10 0) s.finis u.finis x.finis.0 x.finis.1 h.finis in
    let f = between_ext (get_or r 11 0) (get_or r 12 0) s.cells u.cells x.cells.0 x.cells.1 h.cells in
    rw (a, b, c, d, e, f) refl

pub inside_kept : (s u : Store) (r : List ℕ) → Ext s u → Inside s r → Inside u r
inside_kept s u r x h = record {
  needs = longer _ s.needs u.needs x.needs.0 x.needs.1 h.needs;
  defs = longer _ s.defs u.defs x.defs.0 x.defs.1 h.defs;
  inits = longer _ s.inits u.inits x.inits.0 x.inits.1 h.inits;
  finis = longer _ s.finis u.finis x.finis.0 x.finis.1 h.finis;
  cells = longer _ s.cells u.cells x.cells.0 x.cells.1 h.cells;
}

pub rows_kept : (s u : Store) (rs : List (List ℕ)) → Ext s u → AllByRecursion (Inside s) rs → map (library_at u) rs ≡ map (library_at s) rs
rows_kept s u [] x h = refl
rows_kept s u (r ∷ rs) x h = let a = library_kept s u r x h.0 in let b = rows_kept s u rs x h.1 in rw (a, b) refl

pub inside_all : (s u : Store) (rs : List (List ℕ)) → Ext s u → AllByRecursion (Inside s) rs → AllByRecursion (Inside u) rs
inside_all s u [] x h = tt
inside_all s u (r ∷ rs) x h = (inside_kept s u r x h.0, inside_all s u rs x h.1)

pub done_kept : (s u : Store) → Ext s u → u.libs ≡ s.libs → Sound s → done u ≡ done s
done_kept s u x e h = ap (map (library_at u)) e ∙ rows_kept s u s.libs x h

pub sound_kept : (s u : Store) → Ext s u → u.libs ≡ s.libs → Sound s → Sound u
sound_kept s u x e h = let P : List (List ℕ) → Type 0 = AllByRecursion (Inside u) in subst P (sym e) (inside_all s u s.libs x h)

-- a library's row added
pub done_push : (s u : Store) (r : List ℕ) (l : Library) → Ext s u → u.libs ≡ s.libs ++ r ∷ [] → library_at u r ≡ l → Sound s → done u ≡ done s ++ l ∷ []
done_push s u r l x e f h = ap (map (library_at u)) e ∙ map_push (library_at u) s.libs r ∙ (let a = rows_kept s u s.libs x h in rw (a, f) refl)

pub sound_push : (s u : Store) (r : List ℕ) → Ext s u → u.libs ≡ s.libs ++ r ∷ [] → Inside u r → Sound s → Sound u
sound_push s u r x e i h = let P : List (List ℕ) → Type 0 = AllByRecursion (Inside u) in subst P (sym e) (All-push (Inside u) s.libs r (inside_all s u s.libs x h) i)

-- an item more in the library that is being read
pub need_law : (s u : Store) (x : Name) → u.text ≡ s.text → u.needs ≡ s.needs ++ x ∷ [] → u.defs ≡ s.defs → u.inits ≡ s.inits → u.finis ≡ s.finis → u.cells ≡ s.cells → (o : Draft) → Starts s o → library_from u o ≡ apply (library_from s o) (needs x)
unfolding library_from
need_law s u x a b c d e f o h = let g = drop-append-le o.needs s.needs (x ∷ []) h.needs in rw (a, b, c, d, e, f, g) refl

pub define_law : (s u : Store) (x : Definition) → u.text ≡ s.text → u.needs ≡ s.needs → u.defs ≡ s.defs ++ x ∷ [] → u.inits ≡ s.inits → u.finis ≡ s.finis → u.cells ≡ s.cells → (o : Draft) → Starts s o → library_from u o ≡ apply (library_from s o) (define x)
unfolding library_from
define_law s u x a b c d e f o h = let g = drop-append-le o.defs s.defs (x ∷ []) h.defs in rw (a, b, c, d, e, f, g) refl

pub init_law : (s u : Store) (x : ℕ) → u.text ≡ s.text → u.needs ≡ s.needs → u.defs ≡ s.defs → u.inits ≡ s.inits ++ x ∷ [] → u.finis ≡ s.finis → u.cells ≡ s.cells → (o : Draft) → Starts s o → library_from u o ≡ apply (library_from s o) (init x)
unfolding library_from
init_law s u x a b c d e f o h = let g = drop-append-le o.inits s.inits (x ∷ []) h.inits in rw (a, b, c, d, e, f, g) refl

pub fini_law : (s u : Store) (x : ℕ) → u.text ≡ s.text → u.needs ≡ s.needs → u.defs ≡ s.defs → u.inits ≡ s.inits → u.finis ≡ s.finis ++ x ∷ [] → u.cells ≡ s.cells → (o : Draft) → Starts s o → library_from u o ≡ apply (library_from s o) (fini x)
unfolding library_from
fini_law s u x a b c d e f o h = let g = drop-append-le o.finis s.finis (x ∷ []) h.finis in rw (a, b, c, d, e, f, g) refl

pub cell_law : (s u : Store) (x : Cell) → u.text ≡ s.text → u.needs ≡ s.needs → u.defs ≡ s.defs → u.inits ≡ s.inits → u.finis ≡ s.finis → u.cells ≡ s.cells ++ x ∷ [] → (o : Draft) → Starts s o → library_from u o ≡ apply (library_from s o) (cell x)
unfolding library_from
cell_law s u x a b c d e f o h = let g = drop-append-le o.cells s.cells (x ∷ []) h.cells in rw (a, b, c, d, e, f, g) refl

pub starts_on : (s u : Store) (o : Draft) → Ext s u → Starts s o → Starts u o
starts_on s u o x h = record {
  needs = longer _ s.needs u.needs x.needs.0 x.needs.1 h.needs;
  defs = longer _ s.defs u.defs x.defs.0 x.defs.1 h.defs;
  inits = longer _ s.inits u.inits x.inits.0 x.inits.1 h.inits;
  finis = longer _ s.finis u.finis x.finis.0 x.finis.1 h.finis;
  cells = longer _ s.cells u.cells x.cells.0 x.cells.1 h.cells;
}
