-- A closure gathered number by number.
use Rattle.std.specs.Prelude.{Bool, true, false, None, Option, Some, Ok, Err, Result, IsErrAnd, MatchResult, cond, slice_get}
use Rattle.std.specs.Option.{option_map, option_flatten}
use Rattle.std.proofs.Common.{◌≡◌, ℕ, zero, suc, ◌+◌, ◌-◌, ◌<◌, ◌≤◌, List, [], ◌∷◌, length, map, drop, sym, refl, ap, ◌∙◌, subst, arith}
use Rattle.std.proofs.lemmas.List.{at_drop_all, length-map}
use Rattle.std.proofs.lemmas.Option.{same_Some, none-some, slice_get-get_or, slice_get-map}
use Rattle.base.specs.Choices.{opt, on_some}
use Rattle.base.specs.Names.{Name, same}
use Rattle.library.specs.Library.{Library}
use Rattle.library.specs.declared.types.LibraryId.{LibraryId}
use Rattle.libraries.specs.Looks.{library_no, number_of, part_at}
use Rattle.lent.specs.Once.{joined}
use Rattle.needs.specs.Walks.{needs_at}
use Rattle.needs.specs.Refusals.{IsMissing}
use Rattle.needs.specs.Numbered.{needed, fold_some, joined_some, reach}

-- one element of a fold
fold_next : {S A : Type 0} (f : S → A → Option S) (xs : List A) (i : ℕ) (x : A) (s : S) → slice_get xs i ≡ Some x → fold_some f (drop i xs) s ≡ on_some (f s x) (fold_some f (drop (i + 1) xs))
fold_next f [] i x s e = absurd (none-some _ e)
fold_next f (y ∷ ys) zero x s e = ap (λ z. on_some (f s z) (fold_some f ys)) (same_Some _ _ e)
fold_next f (y ∷ ys) (suc i) x s e = fold_next f ys i x s e ∙ (let q : suc i + 1 ≡ suc (i + 1) = omega arith in rw q refl)

-- need i was found, and put behind the others
pub needs_on : (ns : List (Option ℕ)) (i j : ℕ) (xs ys : List ℕ) (r : Option (List ℕ)) → slice_get ns i ≡ Some (Some j) → ys ≡ joined j xs → fold_some joined_some (drop i ns) xs ≡ r → fold_some joined_some (drop (i + 1) ns) ys ≡ r
needs_on ns i j xs ys r e f inv = ap (fold_some joined_some (drop (i + 1) ns)) f ∙ sym (fold_next joined_some ns i (Some j) xs e) ∙ inv

-- need i is missing
pub needs_stop : (ns : List (Option ℕ)) (i : ℕ) (xs : List ℕ) (r : Option (List ℕ)) → slice_get ns i ≡ Some None → fold_some joined_some (drop i ns) xs ≡ r → r ≡ None
needs_stop ns i xs r e inv = sym inv ∙ fold_next joined_some ns i None xs e

-- all needs were looked at
pub needs_end : (ns : List (Option ℕ)) (i : ℕ) (xs : List ℕ) (r : Option (List ℕ)) → length ns ≤ i → fold_some joined_some (drop i ns) xs ≡ r → r ≡ Some xs
needs_end ns i xs r h inv = sym inv ∙ at_drop_all (λ l. fold_some joined_some l xs) ns i h

reach_suc : (m k : ℕ) (f : ℕ → List (Option ℕ)) (h : ℕ) (seen : List ℕ) → m ≡ suc k → reach m f h seen ≡ opt (slice_get seen h) (Some seen) (λ j. on_some (fold_some joined_some (f j) seen) (reach k f (h + 1)))
reach_suc m k f h seen e = ap (λ n. reach n f h seen) e

-- library j was taken, and its needs were put behind the others
pub reach_on : (l h j : ℕ) (f : ℕ → List (Option ℕ)) (xs ys : List ℕ) (r : Option (List ℕ)) → h < l → slice_get xs h ≡ Some j → fold_some joined_some (f j) xs ≡ Some ys → reach (l - h) f h xs ≡ r → reach (l - (h + 1)) f (h + 1) ys ≡ r
reach_on l h j f xs ys r b n e inv =
    sym (reach_suc (l - h) (l - (h + 1)) f h xs (omega arith) ∙ ap (λ o. opt o (Some xs) (λ j. on_some (fold_some joined_some (f j) xs) (reach (l - (h + 1)) f (h + 1)))) n ∙ ap (λ o. on_some o (reach (l - (h + 1)) f (h + 1))) e) ∙ inv

-- library j was taken, and one of its needs is missing
pub reach_stop : (l h j : ℕ) (f : ℕ → List (Option ℕ)) (xs : List ℕ) (r : Option (List ℕ)) → h < l → slice_get xs h ≡ Some j → fold_some joined_some (f j) xs ≡ None → reach (l - h) f h xs ≡ r → r ≡ None
reach_stop l h j f xs r b n e inv =
    sym inv ∙ reach_suc (l - h) (l - (h + 1)) f h xs (omega arith) ∙ ap (λ o. opt o (Some xs) (λ j. on_some (fold_some joined_some (f j) xs) (reach (l - (h + 1)) f (h + 1)))) n ∙ ap (λ o. on_some o (reach (l - (h + 1)) f (h + 1))) e

-- all were taken
pub reach_end : (n h : ℕ) (f : ℕ → List (Option ℕ)) (xs : List ℕ) (r : Option (List ℕ)) → slice_get xs h ≡ None → reach n f h xs ≡ r → r ≡ Some xs
reach_end zero h f xs r e inv = sym inv
reach_end (suc n) h f xs r e inv = sym inv ∙ ap (λ o. opt o (Some xs) (λ j. on_some (fold_some joined_some (f j) xs) (reach n f (h + 1)))) e

-- a library that is found is one of the text's
pub number_of_lt : (ls : List Library) (x : Name) (k : ℕ) → number_of ls x ≡ Some k → k < length ls
number_of_lt [] x k e = absurd (none-some _ e)
number_of_lt (l ∷ ls) x k e = go (same l.name x) (number_of ls x) (number_of_lt ls x) e
  where
    go : (b : Bool) (o : Option ℕ) → ((j : ℕ) → o ≡ Some j → j < length ls) → cond b (Some 0) (option_map suc o) ≡ Some k → k < suc (length ls)
    go true o h p = let z : 0 ≡ k = same_Some _ _ p in omega arith
    go false None h p = absurd (none-some _ p)
    go false (Some j) h p = let z : suc j ≡ k = same_Some _ _ p in let l = h j refl in omega arith

-- what a library needs, by what its need says
needs_of : (ls : List Library) (n i : ℕ) → i < length (needed ls n) → (x : Name) × (part_at ls n (λ l. l.needs) i ≡ Some x) × (slice_get (needed ls n) i ≡ Some (number_of ls x))
needs_of ls n i h = go (slice_get ls n) h
  where
    at : (l : Library) (o : Option Name) → slice_get l.needs i ≡ o → i < length (map (number_of ls) l.needs) → (x : Name) × (slice_get l.needs i ≡ Some x) × (slice_get (map (number_of ls) l.needs) i ≡ Some (number_of ls x))
    at l None e h = absurd (none-some _ (sym e ∙ slice_get-get_or l.needs i [] (omega (arith, length-map l.needs (number_of ls)))))
    at l (Some x) e h = (x, e, slice_get-map (number_of ls) l.needs i ∙ ap (option_map (number_of ls)) e)

    go : (o : Option Library) → i < length (opt o [] (λ l. map (number_of ls) l.needs)) → (x : Name) × (on_some o (λ l. slice_get l.needs i) ≡ Some x) × (slice_get (opt o [] (λ l. map (number_of ls) l.needs)) i ≡ Some (number_of ls x))
    go None h = absurd (omega arith)
    go (Some l) h = at l (slice_get l.needs i) refl h

-- a need that wasn't found
pub need_missing : (ls : List Library) (n i : ℕ) (o : Option LibraryId) → i < length (needed ls n) → option_map library_no o ≡ option_flatten (slice_get (needed ls n) i) → o ≡ None → (slice_get (needed ls n) i ≡ Some None) × IsMissing ls (record { library = record { 0 = n }; need = i })
need_missing ls n i o h e q =
    let p = needs_of ls n i h in
    let m : None ≡ number_of ls p.0 = sym (ap (option_map library_no) q) ∙ e ∙ ap option_flatten p.2 in
    (p.2 ∙ ap Some (sym m), (p.0, p.1, sym m))

-- a need that was found
pub need_found : (ls : List Library) (n i : ℕ) (o : Option LibraryId) (k : LibraryId) → i < length (needed ls n) → option_map library_no o ≡ option_flatten (slice_get (needed ls n) i) → o ≡ Some k → (slice_get (needed ls n) i ≡ Some (Some k.0)) × (k.0 < length ls)
need_found ls n i o k h e q =
    let p = needs_of ls n i h in
    let m : Some k.0 ≡ number_of ls p.0 = sym (ap (option_map library_no) q) ∙ e ∙ ap option_flatten p.2 in
    (p.2 ∙ ap Some (sym m), number_of_lt ls p.0 k.0 (sym m))

-- where gathering begins
pub reach_start : (l h i : ℕ) (f : ℕ → List (Option ℕ)) (xs : List ℕ) → h ≡ 0 → xs ≡ i ∷ [] → reach (l - h) f h xs ≡ reach l f 0 (i ∷ [])
reach_start l h i f xs e d = let z : l - h ≡ l = omega arith in ap (λ n. reach n f h xs) z ∙ ap (λ n. reach l f n xs) e ∙ ap (reach l f 0) d

-- a fault that was handed on
pub fault_is : {T E : Type 0} (r : Result T E) (P : T → Type 0) (Q : E → Type 0) (e : E) → IsErrAnd r (λ x. x ≡ e) → Q e → MatchResult r P Q
fault_is (Ok x) P Q e h q = absurd h
fault_is (Err x) P Q e h q = subst Q (sym h) q

-- a library's needs by name and by number are as many
pub needs_count : (ls : List Library) (n : ℕ) → length (needed ls n) ≡ length (needs_at ls n)
needs_count ls n = go (slice_get ls n)
  where
    go : (o : Option Library) → length (opt o [] (λ l. map (number_of ls) l.needs)) ≡ length (opt o [] (λ l. l.needs))
    go None = refl
    go (Some l) = length-map l.needs (number_of ls)

-- the name of a need that was found
pub need_name : (ls : List Library) (n i j : ℕ) → slice_get (needed ls n) i ≡ Some (Some j) → (x : Name) × (slice_get (needs_at ls n) i ≡ Some x) × (number_of ls x ≡ Some j)
need_name ls n i j e = go (slice_get ls n) e
  where
    at : (l : Library) (o : Option Name) → slice_get l.needs i ≡ o → option_map (number_of ls) o ≡ Some (Some j) → (x : Name) × (slice_get l.needs i ≡ Some x) × (number_of ls x ≡ Some j)
    at l None q h = absurd (none-some _ h)
    at l (Some x) q h = (x, q, same_Some _ _ h)

    go : (o : Option Library) → slice_get (opt o [] (λ l. map (number_of ls) l.needs)) i ≡ Some (Some j) → (x : Name) × (slice_get (opt o [] (λ l. l.needs)) i ≡ Some x) × (number_of ls x ≡ Some j)
    go None h = absurd (none-some _ h)
    go (Some l) h = at l (slice_get l.needs i) refl (sym (slice_get-map (number_of ls) l.needs i) ∙ h)
