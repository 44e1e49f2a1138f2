-- Libraries of one text have names of their own.
use Rattle.std.specs.Prelude.{None, Option, Some, cond, is_some}
use Rattle.std.proofs.Common.{◌≡◌, ℕ, suc, Bool, true, false, eqb, ltb, leb, List, [], ◌∷◌, ◌++◌, map, length, Ok, Err, sym, refl, ap, ◌∙◌, subst}
use Rattle.std.proofs.lemmas.List.{map-append}
use Rattle.std.proofs.lemmas.Bool.{or_from}
use Rattle.base.specs.Choices.{opt, on_ok}
use Rattle.std.specs.Result.{IfOk}
use Rattle.base.specs.Names.{Name, same, among, Once}
use Rattle.base.proofs.Choices.{cond_ok, on_ok_if}
use Rattle.base.proofs.Names.{once_append, same_is, same_self}
use Rattle.text.specs.Words.{lines_of, words_of}
use Rattle.library.specs.Library.{Library, find_library}
use Rattle.library.specs.Keywords.{k_lib}
use Rattle.library.specs.Lines.{Item, inward, needs, define, init, fini, cell, item_line, end_line}
use Rattle.library.specs.Text.{item_reach, apply, bad, Draft, Progress, at_line_number, with_library, drafted, checked, finished, sized, library_item, lib_words, lib_line, line, lines, nothing_read, read}
use Rattle.library.specs.Distinct.{NamedOnce}
use Rattle.library.specs.declared.faults.LineFault.TheVariants.{OutsideLibrary, DuplicateLibrary, TooManyCells, NoSuchCell}
use Rattle.library.proofs.Reading.{numbered}

abbrev name_of : Library → Name
name_of l = l.name

-- the names so far, that of the library that is being read last
abbrev names : Progress → List Name
names p = opt p.draft (map name_of p.done) (λ d. map name_of p.done ++ (d.library.name ∷ []))

abbrev Apart : Progress → Type 0
Apart p = Once (names p)

apply_name : (l : Library) (i : Item) → (apply l i).name ≡ l.name
apply_name l inward = refl
apply_name l (needs x) = refl
apply_name l (define d) = refl
apply_name l (init k) = refl
apply_name l (fini k) = refl
apply_name l (cell c) = refl

drafted_name : (n : ℕ) (d : Draft) (i : Item) → (drafted n d i).library.name ≡ d.library.name
drafted_name n d i = go (ltb d.top (item_reach i))
  where
    go : (b : Bool) → (cond b (record { library = apply d.library i; top = item_reach i; top_line = n }) (with_library d (apply d.library i))).library.name ≡ d.library.name
    go true = apply_name d.library i
    go false = apply_name d.library i

checked_is : (d : Draft) → IfOk (checked d) (λ l. l ≡ d.library)
checked_is d = cond_ok (λ l. l ≡ d.library) (leb d.top (length d.library.cells)) (Ok d.library) (Err (bad d.top_line NoSuchCell)) refl tt

sized_is : (n : ℕ) (d : Draft) → IfOk (sized n d) (λ e. e ≡ d)
sized_is n d = cond_ok (λ e. e ≡ d) (leb (length d.library.cells) 65535) (Ok d) (Err (bad n TooManyCells)) refl tt

finished_apart : (p : Progress) → Apart p → IfOk (finished p) NamedOnce
finished_apart p = go p.draft
  where
    go : (o : Option Draft) → Once (opt o (map name_of p.done) (λ d. map name_of p.done ++ (d.library.name ∷ []))) → IfOk (opt o (Ok p.done) (λ d. on_ok (checked d) (λ l. Ok (p.done ++ (l ∷ []))))) NamedOnce
    go None f = f
    go (Some d) f =
        on_ok_if NamedOnce (checked d) _
        (λ l e. let q : l ≡ d.library = subst (λ r. IfOk r (λ l. l ≡ d.library)) e (checked_is d) in subst Once (sym (map-append name_of p.done (l ∷ []) ∙ ap (λ (k : Library). map name_of p.done ++ (k.name ∷ [])) q)) f)

same_flip : (x y : Name) → same x y ≡ false → same y x ≡ false
same_flip x y e = go (same y x) refl
  where
    go : (b : Bool) → same y x ≡ b → b ≡ false
    go true q = let p = same_is y x q in sym (same_self x) ∙ ap (same x) (sym p) ∙ e
    go false q = refl

-- a name that finds no library is none of theirs
not_among : (ls : List Library) (x : Name) → is_some (find_library ls x) ≡ false → among x (map name_of ls) ≡ false
not_among [] x e = refl
not_among (l ∷ ls) x e = go (same l.name x) refl e (not_among ls x)
  where
    go : (b : Bool) → same l.name x ≡ b → is_some (cond b (Some l) (find_library ls x)) ≡ false → (is_some (find_library ls x) ≡ false → among x (map name_of ls) ≡ false) → among x (l.name ∷ map name_of ls) ≡ false
    go true q e f = cc
    go false q e f = or_from _ _ (same_flip l.name x q) (f e)

lib_words_new : (ls : List Library) (ws : List Name) → IfOk (lib_words ls ws) (λ x. is_some (find_library ls x) ≡ false)
lib_words_new ls [] = tt
lib_words_new ls (x ∷ us) = go (is_some (find_library ls x)) us refl
  where
    go : (b : Bool) (us : List Name) → is_some (find_library ls x) ≡ b → IfOk (cond b (Err DuplicateLibrary) (end_line x us)) (λ x. is_some (find_library ls x) ≡ false)
    go true us e = tt
    go false [] e = e
    go false (u ∷ us) e = tt

item_apart : (n : ℕ) (p : Progress) (d : Draft) (w : Name) (ws : List Name) → Once (map name_of p.done ++ (d.library.name ∷ [])) → IfOk (library_item n p d w ws) Apart
item_apart n p d w ws f =
    on_ok_if Apart (at_line_number n (item_line w ws)) _
    (λ i e. on_ok_if Apart (sized n (drafted n d i)) _
    (λ q r. let s : q ≡ drafted n d i = subst (λ r. IfOk r (λ e. e ≡ drafted n d i)) r (sized_is n (drafted n d i)) in subst (λ x. Once (map name_of p.done ++ (x ∷ []))) (sym (ap (λ (d : Draft). d.library.name) s ∙ drafted_name n d i)) f))

lib_apart : (n : ℕ) (p : Progress) (ws : List Name) → Apart p → IfOk (lib_line n p ws) Apart
lib_apart n p ws f =
    on_ok_if Apart (finished p) _
    (λ ls e. on_ok_if Apart (at_line_number n (lib_words ls ws)) _
    (λ x q. once_append (map name_of ls) (x ∷ []) (subst (λ r. IfOk r NamedOnce) e (finished_apart p f)) (not_among ls x (subst (λ r. IfOk r (λ x. is_some (find_library ls x) ≡ false)) q (numbered _ n (lib_words ls ws) (lib_words_new ls ws))), tt) (refl, tt)))

line_apart : (n : ℕ) (p : Progress) (ws : List Name) → Apart p → IfOk (line n p ws) Apart
line_apart n p [] f = f
line_apart n p ([] ∷ ws) f = f
line_apart n p ((c ∷ cs) ∷ ws) f = cond_ok Apart (eqb c 35) _ _ f (cond_ok Apart (same (c ∷ cs) k_lib) _ _ (lib_apart n p ws f) (go p.draft f))
  where
    go : (o : Option Draft) → Once (opt o (map name_of p.done) (λ d. map name_of p.done ++ (d.library.name ∷ []))) → IfOk (opt o (Err (bad n OutsideLibrary)) (λ d. library_item n p d (c ∷ cs) ws)) Apart
    go None f = tt
    go (Some d) f = item_apart n p d (c ∷ cs) ws f

lines_apart : (n : ℕ) (p : Progress) (xs : List (List Name)) → Apart p → IfOk (lines n p xs) NamedOnce
lines_apart n p [] f = finished_apart p f
lines_apart n p (ws ∷ xs) f = on_ok_if NamedOnce (line n p ws) _ (λ q e. lines_apart (suc n) q xs (subst (λ r. IfOk r Apart) e (line_apart n p ws f)))

pub reads_once : (t : List ℕ) (ls : List Library) → read t ≡ Ok ls → NamedOnce ls
unfolding read
reads_once t ls e = subst (λ r. IfOk r NamedOnce) e (lines_apart 1 nothing_read (map words_of (lines_of t)) tt)
