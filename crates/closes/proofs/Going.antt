-- Which modules go.
use Rattle.std.specs.Prelude.{Bool, true, false, not, ◌&&◌, None, Option, Some, Ok, Err, Result, IsErrAnd, MatchResult, cond, filter, is_ok, is_some, nat_le, nat_lt, slice_get, ⊤}
use Rattle.std.specs.Option.{option_map}
use Rattle.std.proofs.Common.{◌≡◌, ℕ, zero, suc, ◌+◌, ◌*◌, ◌<◌, ◌≤◌, ⊎_elim, List, [], ◌∷◌, ◌++◌, map, length, drop, sym, refl, ap, ◌∙◌, add-one, append_assoc, arith}
use Rattle.std.proofs.lemmas.Bool.{cases_lt, leb-false}
use Rattle.std.proofs.lemmas.List.{map-append, append-nil, drop_all, length-append, length-map}
use Rattle.lent.proofs.Rows.{rows_len}
use Rattle.std.proofs.lemmas.List.Elements.{filter-append}
use Rattle.std.proofs.lemmas.Option.{none-some, same_Some, slice_get_past}
use Rattle.base.specs.Choices.{on_some, guard}
use Rattle.base.specs.Lists.{has}
use Rattle.library.specs.Library.{Library}
use Rattle.lent.specs.Tables.{rows_in, column}
use Rattle.lent.specs.declared.table.Table.{Table}
use Rattle.lent.specs.declared.refusals.Full.{Full}
use Rattle.links.specs.Links as links
use Rattle.links.specs.Links.{Links}
use Rattle.links.specs.Scope.{live_at}
use Rattle.links.specs.Close as close
use Rattle.links.specs.Whole.{staying}
use Rattle.linkage.specs.Tables.{number_in, module_at, module_of, links_of}
use Rattle.linkage.specs.declared.types.Module.{Module}
use Rattle.linkage.specs.declared.tables.Tables.{Tables}
use Rattle.closes.specs.Staying.{none_or_one, Stays}
use Rattle.closes.specs.Leaving.{goes, leavers}
use Rattle.closes.proofs.Rows.{slice_get-numbered}

-- whether a module is there, as the tables say it
pub live_here : (ls : List Library) (t : Tables) (i : ℕ) (m : Module) → Some m ≡ option_map (module_at t i) (slice_get (rows_in 3 t.modules) i) → is_some (live_at (links_of ls t).modules i) ≡ m.live
live_here ls t i m e = go (slice_get (rows_in 3 t.modules) i) refl e
  where
    live : (x : links.Module) (b : Bool) → is_some (guard b (Some x)) ≡ b
    live x true = refl
    live x false = refl

    go : (o : Option (List ℕ)) → slice_get (rows_in 3 t.modules) i ≡ o → Some m ≡ option_map (module_at t i) o → is_some (live_at (links_of ls t).modules i) ≡ m.live
    go None q p = absurd (none-some _ (sym p))
    go (Some r) q p =
        ap (λ o. is_some (on_some o (λ x. guard x.live (Some x)))) (slice_get-numbered (module_of ls t) 0 (rows_in 3 t.modules) i i (omega arith) ∙ ap (option_map (module_of ls t i)) q)
        ∙ live (module_of ls t i r) (module_of ls t i r).live
        ∙ ap (λ (x : Module). x.live) (sym (same_Some _ _ p))

pub live_nowhere : (ls : List Library) (t : Tables) (i : ℕ) → None ≡ option_map (module_at t i) (slice_get (rows_in 3 t.modules) i) → is_some (live_at (links_of ls t).modules i) ≡ false
live_nowhere ls t i e = go (slice_get (rows_in 3 t.modules) i) refl e
  where
    go : (o : Option (List ℕ)) → slice_get (rows_in 3 t.modules) i ≡ o → None ≡ option_map (module_at t i) o → is_some (live_at (links_of ls t).modules i) ≡ false
    go None q p = ap (λ o. is_some (on_some o (λ x. guard x.live (Some x)))) (slice_get-numbered (module_of ls t) 0 (rows_in 3 t.modules) i i (omega arith) ∙ ap (option_map (module_of ls t i)) q)
    go (Some r) q p = absurd (none-some _ p)

-- a filter of one
pub kept_none : (f : ℕ → Bool) (o : Option ℕ) (i : ℕ) → o ≡ Some i → f i ≡ false → filter f (none_or_one o) ≡ []
kept_none f o i e h = ap (λ p. filter f (none_or_one p)) e ∙ ap (λ b. cond b (i ∷ []) []) h

pub kept_one : (f : ℕ → Bool) (o : Option ℕ) (i : ℕ) → o ≡ Some i → f i ≡ true → filter f (none_or_one o) ≡ i ∷ []
kept_one f o i e h = ap (λ p. filter f (none_or_one p)) e ∙ ap (λ b. cond b (i ∷ []) []) h

drop_next : (xs : List ℕ) (i : ℕ) → i < length xs → drop i xs ≡ none_or_one (slice_get xs i) ++ drop (suc i) xs
drop_next [] i h = absurd (omega arith)
drop_next (x ∷ xs) zero h = refl
drop_next (x ∷ xs) (suc i) h = drop_next xs i (omega arith)

pub filter_next : (f : ℕ → Bool) (xs : List ℕ) (i : ℕ) → i < length xs → filter f (drop i xs) ≡ filter f (none_or_one (slice_get xs i)) ++ filter f (drop (i + 1) xs)
filter_next f xs i h =
    let s = add-one i in
    rw s (ap (filter f) (drop_next xs i h) ∙ filter-append f (none_or_one (slice_get xs i)) (drop (suc i) xs))

pub filter_same : (f g : ℕ → Bool) (xs : List ℕ) → ((x : ℕ) → f x ≡ g x) → filter f xs ≡ filter g xs
filter_same f g [] h = refl
filter_same f g (x ∷ xs) h = λ i. cond (h x i) (x ∷ filter_same f g xs h i) (filter_same f g xs h i)

-- a number pushed, or no room for it
pub pushed : (t u : Table 1) (r : Result ⊤ Full) (i : ℕ) (ys : List ℕ) → is_ok r ≡ (nat_lt 0 1 && nat_le (1 * t.len + 1) (length t.words.now)) → rows_in 1 u ≡ cond (is_ok r) (rows_in 1 t ++ (i ∷ []) ∷ []) (rows_in 1 t) → ys ≡ i ∷ [] → MatchResult r (λ _. column u ≡ column t ++ ys) (λ _. (length t.words.now ≤ t.len) × (1 ≤ length ys))
pushed t u (Ok x) i ys room rows e = ap (map number_in) rows ∙ map-append number_in (rows_in 1 t) ((i ∷ []) ∷ []) ∙ ap (λ zs. column t ++ zs) (sym e)
pushed t u (Err x) i ys room rows e = (omega (arith, leb-false (1 * t.len + 1) (length t.words.now) (sym room)), omega (arith, ap length e))

-- where the set has what stays, those that go leave
goes_past : (ms : List links.Module) (xs : List ℕ) (j : ℕ) → length ms ≤ j → goes ms xs j ≡ false
goes_past ms xs j h = ap (λ o. is_some (on_some o (λ (x : links.Module). guard x.live (Some x))) && not (has j xs)) (slice_get_past ms j h)

pub leavers_leave : (k : Links) (xs : List ℕ) → Stays k xs → leavers k xs ≡ close.leaving k
leavers_leave k xs s = filter_same (goes k.modules xs) (goes k.modules (staying k)) k.order (λ j. ⊎_elim
    (λ l. ap (λ b. is_some (live_at k.modules j) && not b) (s j l))
    (λ l. goes_past k.modules xs j l ∙ sym (goes_past k.modules (staying k) j l))
    (cases_lt j (length k.modules)))

-- one more row was asked
pub leavers_on : (f : ℕ → Bool) (order left next : List ℕ) (i : ℕ) (all : List ℕ) → i < length order → next ≡ left ++ filter f (none_or_one (slice_get order i)) → left ++ filter f (drop i order) ≡ all → next ++ filter f (drop (i + 1) order) ≡ all
leavers_on f order left next i all h e inv =
    ap (λ xs. xs ++ filter f (drop (i + 1) order)) e
    ∙ append_assoc left (filter f (none_or_one (slice_get order i))) (filter f (drop (i + 1) order))
    ∙ sym (ap (λ xs. left ++ xs) (filter_next f order i h)) ∙ inv

-- all rows were asked
pub leavers_end : (f : ℕ → Bool) (order left : List ℕ) (i : ℕ) (all : List ℕ) → length order ≤ i → left ++ filter f (drop i order) ≡ all → left ≡ all
leavers_end f order left i all h inv = sym (append-nil left) ∙ sym (ap (λ xs. left ++ filter f xs) (drop_all i order h)) ∙ inv

-- one more would not fit
pub leavers_full : (f : ℕ → Bool) (order left : List ℕ) (i n : ℕ) (all : List ℕ) → i < length order → n ≤ length left → 1 ≤ length (filter f (none_or_one (slice_get order i))) → left ++ filter f (drop i order) ≡ all → n < length all
leavers_full f order left i n all h l m inv =
    let a = filter f (none_or_one (slice_get order i)) in
    let b = filter f (drop (i + 1) order) in
    omega (arith, sym (ap length inv), ap (λ xs. length (left ++ xs)) (filter_next f order i h), length-append left (a ++ b), length-append a b)

pub column_count : (t : Table 1) → length (column t) ≡ t.len
column_count t = length-map (rows_in 1 t) number_in ∙ rows_len 1 t.words.now t.len

-- a refusal that was handed on
pub refused : {X E : Type 0} (r : Result X E) (P : E → Type 0) → IsErrAnd r P → is_ok r ≡ false
refused (Ok x) P h = absurd h
refused (Err e) P h = refl
