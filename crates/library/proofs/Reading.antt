-- Registers, numbers and cells of the libraries that a text gives are in range.
use Rattle.std.proofs.ByRecursion.{All-push}
use Rattle.std.specs.List.{AllByRecursion}
use Rattle.std.specs.Prelude.{None, Option, Some, cond}
use Rattle.std.proofs.Common.{◌≡◌, ℕ, suc, ◌<◌, ◌≤◌, Bool, true, false, eqb, ltb, leb, List, [], ◌∷◌, ◌++◌, map, length, Ok, Err, refl, subst, arith}
use Rattle.base.specs.Choices.{opt, on_ok}
use Rattle.std.specs.Result.{IfOk}
use Rattle.std.specs.Option.{IfSome}
use Rattle.base.specs.Names.{Name, same}
use Rattle.base.proofs.Choices.{cond_ok, on_ok_if, ok_part_inv}
use Rattle.base.proofs.Lists.{all_like}
use Rattle.text.specs.Words.{lines_of, words_of}
use Rattle.library.specs.Library.{Cell, number, ref, at, slot, named, instruction, Library}
use Rattle.library.specs.Keywords.{k_lib}
use Rattle.library.specs.Lines.{Read, Item, inward, needs, define, init, fini, cell, item_line}
use Rattle.library.specs.Text.{item_reach, apply, bad, Draft, Progress, at_line_number, with_library, drafted, checked, finished, sized, library_item, lib_words, lib_line, line, lines, nothing_read, read, reads}
use Rattle.library.specs.Fine.{CellFine, LibraryFine}
use Rattle.library.specs.declared.faults.LineFault.TheVariants.{OutsideLibrary, TooManyCells, NoSuchCell}
use Rattle.library.proofs.Operands.{ItemFine, ItemOwn, item_line_fine}
use Rattle.std.proofs.lemmas.Bool.{ltb-true, ltb-false, leb-true}

-- a library whose lines name cells below z
record Under (z : ℕ) (l : Library) : Type 0 where
  pub cells : AllByRecursion (CellFine z) l.cells
  pub defs : AllByRecursion (λ d. d.cell < z) l.defs
  pub inits : AllByRecursion (λ j. j < z) l.inits
  pub finis : AllByRecursion (λ j. j < z) l.finis

cell_more : (y z : ℕ) → y ≤ z → (c : Cell) → CellFine y c → CellFine z c
cell_more y z h (number n) p = p
cell_more y z h (ref s n b) p = p
cell_more y z h (at j) p = omega arith
cell_more y z h (slot s) p = tt
cell_more y z h (named x) p = tt
cell_more y z h (instruction o) p = (p.0, omega (arith, p.1))

item_more : (y z : ℕ) → y ≤ z → (i : Item) → ItemFine y i → ItemFine z i
item_more y z h inward p = tt
item_more y z h (needs x) p = tt
item_more y z h (define d) p = omega arith
item_more y z h (init k) p = omega arith
item_more y z h (fini k) p = omega arith
item_more y z h (cell c) p = cell_more y z h c p

under_more : (y z : ℕ) (l : Library) → y ≤ z → Under y l → Under z l
under_more y z l h u = record { cells = all_like _ _ l.cells (cell_more y z h) u.cells; defs = all_like _ _ l.defs (λ d p. omega arith) u.defs; inits = all_like _ _ l.inits (λ k p. omega arith) u.inits; finis = all_like _ _ l.finis (λ k p. omega arith) u.finis }

under_apply : (z : ℕ) (l : Library) (i : Item) → Under z l → ItemFine z i → Under z (apply l i)
under_apply z l inward u p = record { cells = u.cells; defs = u.defs; inits = u.inits; finis = u.finis }
under_apply z l (needs x) u p = record { cells = u.cells; defs = u.defs; inits = u.inits; finis = u.finis }
under_apply z l (define d) u p = record { cells = u.cells; defs = All-push _ l.defs d u.defs p; inits = u.inits; finis = u.finis }
under_apply z l (init k) u p = record { cells = u.cells; defs = u.defs; inits = All-push _ l.inits k u.inits p; finis = u.finis }
under_apply z l (fini k) u p = record { cells = u.cells; defs = u.defs; inits = u.inits; finis = All-push _ l.finis k u.finis p }
under_apply z l (cell c) u p = record { cells = All-push _ l.cells c u.cells p; defs = u.defs; inits = u.inits; finis = u.finis }

-- a draft whose lines name cells below its top
abbrev Named : Draft → Type 0
Named d = Under d.top d.library

-- and that has not too many
record DraftFine (d : Draft) : Type 0 where
  pub under : Named d
  pub small : length d.library.cells < 65536

named_drafted : (n : ℕ) (d : Draft) (i : Item) → Named d → ItemOwn i → Named (drafted n d i)
named_drafted n d i u p = go (ltb d.top (item_reach i)) refl
  where
    go : (b : Bool) → ltb d.top (item_reach i) ≡ b → Named (cond b (record { library = apply d.library i; top = item_reach i; top_line = n }) (with_library d (apply d.library i)))
    go true e = under_apply (item_reach i) d.library i (under_more d.top (item_reach i) d.library (omega (arith, ltb-true d.top (item_reach i) e)) u) p
    go false e = under_apply d.top d.library i u (item_more (item_reach i) d.top (omega (arith, ltb-false d.top (item_reach i) e)) i p)

record ProgressFine (p : Progress) : Type 0 where
  pub done : AllByRecursion LibraryFine p.done
  pub draft : IfSome p.draft DraftFine

checked_fine : (d : Draft) → DraftFine d → IfOk (checked d) LibraryFine
checked_fine d f = go (leb d.top (length d.library.cells)) refl
  where
    go : (b : Bool) → leb d.top (length d.library.cells) ≡ b → IfOk (cond b (Ok d.library) (Err (bad d.top_line NoSuchCell))) LibraryFine
    go true e = let u = under_more d.top (length d.library.cells) d.library (leb-true _ _ e) f.under in record { cells = u.cells; small = f.small; defs = u.defs; inits = u.inits; finis = u.finis }
    go false e = tt

finished_fine : (p : Progress) → ProgressFine p → IfOk (finished p) (AllByRecursion LibraryFine)
finished_fine p f = go p.draft f.draft
  where
    go : (o : Option Draft) → IfSome o DraftFine → IfOk (opt o (Ok p.done) (λ d. on_ok (checked d) (λ l. Ok (p.done ++ (l ∷ []))))) (AllByRecursion LibraryFine)
    go None g = f.done
    go (Some d) g = on_ok_if (AllByRecursion LibraryFine) (checked d) _ (λ l e. All-push LibraryFine p.done l f.done (subst (λ r. IfOk r LibraryFine) e (checked_fine d g)))

sized_fine : (n : ℕ) (d : Draft) → Named d → IfOk (sized n d) DraftFine
sized_fine n d u = go (leb (length d.library.cells) 65535) refl
  where
    go : (b : Bool) → leb (length d.library.cells) 65535 ≡ b → IfOk (cond b (Ok d) (Err (bad n TooManyCells))) DraftFine
    go true e = record { under = u; small = omega (arith, leb-true (length d.library.cells) 65535 e) }
    go false e = tt

pub numbered : {A : Type 0} (P : A → Type 0) (n : ℕ) (r : Read A) → IfOk r P → IfOk (at_line_number n r) P
numbered P n (Ok a) h = h
numbered P n (Err e) h = tt

item_fine : (n : ℕ) (p : Progress) (d : Draft) (w : Name) (ws : List Name) → ProgressFine p → DraftFine d → IfOk (library_item n p d w ws) ProgressFine
item_fine n p d w ws f g =
    on_ok_if ProgressFine (at_line_number n (item_line w ws)) _
    (λ i e. on_ok_if ProgressFine (sized n (drafted n d i)) _
    (λ q r. record { done = f.done; draft = subst (λ r. IfOk r DraftFine) r (sized_fine n (drafted n d i) (named_drafted n d i g.under (subst (λ r. IfOk r ItemOwn) e (numbered ItemOwn n (item_line w ws) (item_line_fine w ws))))) }))

lib_fine : (n : ℕ) (p : Progress) (ws : List Name) → ProgressFine p → IfOk (lib_line n p ws) ProgressFine
lib_fine n p ws f =
    on_ok_if ProgressFine (finished p) _
    (λ ls e. on_ok_if ProgressFine (at_line_number n (lib_words ls ws)) _
    (λ x q. record { done = subst (λ r. IfOk r (AllByRecursion LibraryFine)) e (finished_fine p f); draft = record { under = record { cells = tt; defs = tt; inits = tt; finis = tt }; small = omega arith } }))

line_fine : (n : ℕ) (p : Progress) (ws : List Name) → ProgressFine p → IfOk (line n p ws) ProgressFine
line_fine n p [] f = f
line_fine n p ([] ∷ ws) f = f
line_fine n p ((c ∷ cs) ∷ ws) f = cond_ok ProgressFine (eqb c 35) _ _ f (cond_ok ProgressFine (same (c ∷ cs) k_lib) _ _ (lib_fine n p ws f) (go p.draft f.draft))
  where
    go : (o : Option Draft) → IfSome o DraftFine → IfOk (opt o (Err (bad n OutsideLibrary)) (λ d. library_item n p d (c ∷ cs) ws)) ProgressFine
    go None g = tt
    go (Some d) g = item_fine n p d (c ∷ cs) ws f g

lines_fine : (n : ℕ) (p : Progress) (xs : List (List Name)) → ProgressFine p → IfOk (lines n p xs) (AllByRecursion LibraryFine)
lines_fine n p [] f = finished_fine p f
lines_fine n p (ws ∷ xs) f = on_ok_if (AllByRecursion LibraryFine) (line n p ws) _ (λ q e. lines_fine (suc n) q xs (subst (λ r. IfOk r ProgressFine) e (line_fine n p ws f)))

pub reads_fine : (t : List ℕ) (ls : List Library) → reads t ≡ Some ls → AllByRecursion LibraryFine ls
unfolding read
reads_fine t ls e = subst (λ r. IfOk r (AllByRecursion LibraryFine)) (ok_part_inv (read t) ls e) (lines_fine 1 nothing_read (map words_of (lines_of t)) (record { done = tt; draft = tt }))
