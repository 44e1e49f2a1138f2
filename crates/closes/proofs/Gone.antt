-- Modules that are gone.
use Rattle.std.specs.Prelude.{Bool, true, false, not, ◌&&◌, None, Option, Some, cond, filter, is_some, slice_get, slice_set, slice_index}
use Rattle.std.specs.Option.{option_map}
use Rattle.std.proofs.Common.{◌≡◌, ℕ, zero, suc, ◌+◌, ◌<◌, ◌≤◌, eqb, ⊎_elim, List, [], ◌∷◌, ◌++◌, length, drop, sym, refl, ap, ◌∙◌, arith}
use Rattle.std.proofs.lemmas.Bool.{cases_Bool, cases_eq, cases_lt, eqb-true, ne_eqb, and_parts}
use Rattle.std.proofs.lemmas.List.{get_or-set_same, get_or-set_other, get_or_past, drop_all, length-set}
use Rattle.std.proofs.lemmas.Option.{none-some, same_Some}
use Rattle.base.specs.Choices.{opt, on_some, guard}
use Rattle.base.specs.Lists.{has}
use Rattle.library.specs.Library.{Library}
use Rattle.lent.specs.Tables.{rows_in}
use Rattle.links.specs.Links as links
use Rattle.links.specs.Links.{Links, with_modules}
use Rattle.links.specs.Scope.{live_at}
use Rattle.links.specs.Close.{unloaded, unload_all, leaving}
use Rattle.links.specs.Close as close
use Rattle.links.specs.Whole.{Live}
use Rattle.links.proofs.Lives.{live_is, is_live, unload_inv}
use Rattle.links.proofs.Numbers.{has-keep, keep-has}
use Rattle.linkage.specs.Tables.{numbered, bindings_from, library_at, module_at, module_of, links_of}
use Rattle.linkage.specs.declared.types.Module.{Module}
use Rattle.linkage.specs.declared.tables.Tables.{Tables}
use Rattle.closes.specs.Staying.{none_or_one, Stays}
use Rattle.closes.specs.Leaving.{goes, gone, IsOrdered}
use Rattle.closes.proofs.Going.{filter_next, filter_same, leavers_leave}
use Rattle.closes.proofs.Growing.{same_bool}

-- another in the place of an element that stays as it is
set_as_was : {X : Type 0} (xs : List X) (i : ℕ) (x : X) → slice_get xs i ≡ Some x → slice_set xs i x ≡ xs
set_as_was [] i x e = refl
set_as_was (y ∷ xs) zero x e = ap (λ z. z ∷ xs) (sym (same_Some _ _ e))
set_as_was (y ∷ xs) (suc i) x e = ap (λ zs. y ∷ zs) (set_as_was xs i x e)

-- one that isn't there doesn't go
not_there : (ms : List links.Module) (i : ℕ) → is_some (live_at ms i) ≡ false → unload_all (i ∷ []) ms ≡ ms
not_there ms i e = go (slice_get ms i) refl e
  where
    dead : (x : links.Module) (b : Bool) → slice_get ms i ≡ Some x → x.live ≡ b → is_some (guard b (Some x)) ≡ false → slice_set ms i (unloaded x) ≡ ms
    dead x true q l p = let z : ◌≡◌ {A = ℕ} 0 1 = cc in absurd (omega arith)
    dead x false q l p = set_as_was ms i (unloaded x) (q ∙ ap (λ b. Some (record { lib = x.lib; live = b; group = x.group; bound = x.bound })) l)

    go : (o : Option links.Module) → slice_get ms i ≡ o → is_some (on_some o (λ x. guard x.live (Some x))) ≡ false → opt o ms (λ x. slice_set ms i (unloaded x)) ≡ ms
    go None q p = refl
    go (Some x) q p = dead x x.live q refl p

-- the rows read by g are those read by f, but for row m
numbered_put : {X : Type 0} (f g : ℕ → List ℕ → X) (u : X → X) (a m i : ℕ) (rs : List (List ℕ)) → i ≡ a + m → ((b : ℕ) (r : List ℕ) → (b ≡ i → ⊥) → g b r ≡ f b r) → ((r : List ℕ) → slice_get rs m ≡ Some r → g i r ≡ u (f i r)) → numbered g a rs ≡ opt (slice_get (numbered f a rs) m) (numbered f a rs) (λ x. slice_set (numbered f a rs) m (u x))
numbered_put f g u a m i [] e other here = refl
numbered_put f g u a zero i (r ∷ rs) e other here =
    let q : a ≡ i = omega arith in
    λ t. (ap (λ n. g n r) q ∙ here r refl ∙ ap (λ n. u (f n r)) (sym q)) t ∷ rest (suc a) rs (omega arith) t
  where
    rest : (b : ℕ) (ss : List (List ℕ)) → i < b → numbered g b ss ≡ numbered f b ss
    rest b [] l = refl
    rest b (s ∷ ss) l = λ t. other b s (λ q. omega arith) t ∷ rest (suc b) ss (omega arith) t
numbered_put {X} f g u a (suc m) i (r ∷ rs) e other here =
    (λ t. other a r (λ q. omega arith) t ∷ numbered_put f g u (suc a) m i rs (omega arith) other here t)
    ∙ go (slice_get (numbered f (suc a) rs) m)
  where
    go : (o : Option X) → f a r ∷ opt o (numbered f (suc a) rs) (λ x. slice_set (numbered f (suc a) rs) m (u x)) ≡ opt o (f a r ∷ numbered f (suc a) rs) (λ x. f a r ∷ slice_set (numbered f (suc a) rs) m (u x))
    go None = refl
    go (Some x) = refl

-- the word of a live module's library, set to 0: that module is gone, and no other
live_other : (ws : List ℕ) (k i b l : ℕ) → slice_index ws k ≡ suc i → (b ≡ i → ⊥) → eqb (slice_index (slice_set ws k 0) l) (suc b) ≡ eqb (slice_index ws l) (suc b)
live_other ws k i b l e n = ⊎_elim
    (λ (q : l ≡ k). ne_eqb (slice_index (slice_set ws k 0) l) (suc b) (λ h. clash h (ap (slice_index (slice_set ws k 0)) q ∙ get_or-set_same ws k 0 0 inside)) ∙ sym (ne_eqb (slice_index ws l) (suc b) (λ h. n (let z : suc b ≡ suc i = sym h ∙ ap (slice_index ws) q ∙ e in omega arith))))
    (λ (q : l ≡ k → ⊥). ap (λ w. eqb w (suc b)) (get_or-set_other ws k l 0 0 q))
    (cases_eq l k)
  where
    inside : k < length ws
    inside = ⊎_elim (λ h. h) (λ h. let z = get_or_past ws k 0 h in absurd (omega arith)) (cases_lt k (length ws))

    clash : slice_index (slice_set ws k 0) l ≡ suc b → slice_index (slice_set ws k 0) l ≡ 0 → ⊥
    clash h z = omega arith

live_none : (ws : List ℕ) (k i : ℕ) → eqb (slice_index (slice_set ws k 0) k) (suc i) ≡ false
live_none ws k i = ne_eqb (slice_index (slice_set ws k 0) k) (suc i) (λ h. ⊎_elim
    (λ (l : k < length ws). let z = get_or-set_same ws k 0 0 l in omega arith)
    (λ (l : length ws ≤ k). let z = get_or_past (slice_set ws k 0) k 0 (omega (arith, l, length-set ws k 0)) in omega arith)
    (cases_lt k (length ws)))

-- a module by its row, live or not
abbrev made : List Library → Tables → Bool → List ℕ → links.Module
made ls t b r = record { lib = library_at ls (slice_index r 0); live = b; group = slice_index r 1; bound = bindings_from (rows_in 2 t.bindings) (slice_index r 2) (length (library_at ls (slice_index r 0)).cells) }

-- the modules once the word of a live module's library was set to 0
pub gone_one : (ls : List Library) (t : Tables) (i : ℕ) (m : Module) → Some m ≡ option_map (module_at t i) (slice_get (rows_in 3 t.modules) i) → m.live ≡ true → numbered (λ b r. made ls t (eqb (slice_index (slice_set t.loaded.now m.load.library.0 0) (slice_index r 0)) (suc b)) r) 0 (rows_in 3 t.modules) ≡ unload_all (i ∷ []) (links_of ls t).modules
gone_one ls t i m e l = numbered_put (module_of ls t) (λ b r. made ls t (eqb (slice_index (slice_set ws k 0) (slice_index r 0)) (suc b)) r) unloaded 0 i i (rows_in 3 t.modules) (omega arith)
    (λ b r n. ap (λ v. made ls t v r) (live_other ws k i b (slice_index r 0) word n))
    (λ r q. ap (λ v. made ls t v r) (ap (λ n. eqb (slice_index (slice_set ws k 0) n) (suc i)) (sym (library r q)) ∙ live_none ws k i))
  where
    ws : List ℕ
    ws = t.loaded.now

    k : ℕ
    k = m.load.library.0

    is : (r : List ℕ) → slice_get (rows_in 3 t.modules) i ≡ Some r → m ≡ module_at t i r
    is r q = same_Some _ _ (e ∙ ap (option_map (module_at t i)) q)

    library : (r : List ℕ) → slice_get (rows_in 3 t.modules) i ≡ Some r → k ≡ slice_index r 0
    library r q = ap (λ (x : Module). x.load.library.0) (is r q)

    word : slice_index ws k ≡ suc i
    word = go (slice_get (rows_in 3 t.modules) i) refl
      where
        go : (o : Option (List ℕ)) → slice_get (rows_in 3 t.modules) i ≡ o → slice_index ws k ≡ suc i
        go None q = absurd (none-some _ (sym (e ∙ ap (option_map (module_at t i)) q)))
        go (Some r) q = ap (slice_index ws) (library r q) ∙ eqb-true (slice_index ws (slice_index r 0)) (suc i) (sym (ap (λ (x : Module). x.live) (is r q)) ∙ l)

-- where nothing is live, nothing goes
pub gone_none : (ls : List Library) (t : Tables) (i : ℕ) → is_some (live_at (links_of ls t).modules i) ≡ false → links_of ls t ≡ gone (i ∷ []) (links_of ls t)
gone_none ls t i e = ap (with_modules (links_of ls t)) (sym (not_there (links_of ls t).modules i e))

-- one list after the other
unload-append : (xs ys : List ℕ) (ms : List links.Module) → unload_all (xs ++ ys) ms ≡ unload_all ys (unload_all xs ms)
unload-append [] ys ms = refl
unload-append (x ∷ xs) ys ms = unload-append xs ys (opt (slice_get ms x) ms (λ z. slice_set ms x (unloaded z)))

-- the next of the list is gone
pub gone_on : (p : ℕ → Bool) (js : List ℕ) (i : ℕ) (k l all : Links) → i < length js → l ≡ gone (filter p (none_or_one (slice_get js i))) k → gone (filter p (drop i js)) k ≡ all → gone (filter p (drop (i + 1) js)) l ≡ all
gone_on p js i k l all h e inv =
    ap (gone (filter p (drop (i + 1) js))) e
    ∙ ap (with_modules k) (sym (unload-append (filter p (none_or_one (slice_get js i))) (filter p (drop (i + 1) js)) k.modules))
    ∙ ap (λ xs. gone xs k) (sym (filter_next p js i h)) ∙ inv

pub gone_end : (p : ℕ → Bool) (js : List ℕ) (i : ℕ) (k all : Links) → length js ≤ i → gone (filter p (drop i js)) k ≡ all → k ≡ all
gone_end p js i k all h inv = ap (λ xs. gone (filter p xs) k) (sym (drop_all i js h)) ∙ inv

-- one that wasn't there needn't be asked for
skip_dead : (ns : List links.Module) (p : ℕ → Bool) (js : List ℕ) (ms : List links.Module) → ((j : ℕ) → Live ms j → Live ns j) → unload_all (filter p js) ms ≡ unload_all (filter (λ j. is_some (live_at ns j) && p j) js) ms
skip_dead ns p [] ms h = refl
skip_dead ns p (j ∷ js) ms h = go (p j) (is_some (live_at ns j)) refl (skip_dead ns p js ms h) (skip_dead ns p js one fewer)
  where
    one : List links.Module
    one = unload_all (j ∷ []) ms

    f : ℕ → Bool
    f i = is_some (live_at ns i) && p i

    fewer : (i : ℕ) → Live one i → Live ns i
    fewer i l = let x = live_is one i l in h i (is_live ms i x.0 (unload_inv (j ∷ []) ms i x.0 x.1).0)

    dead : is_some (live_at ns j) ≡ false → is_some (live_at ms j) ≡ false
    dead e = ⊎_elim (λ l. let q = h j l in let z : ◌≡◌ {A = ℕ} 0 1 = cc in absurd (omega arith)) (λ q. q) (cases_Bool (is_some (live_at ms j)))

    go : (b a : Bool) → is_some (live_at ns j) ≡ a → unload_all (filter p js) ms ≡ unload_all (filter f js) ms → unload_all (filter p js) one ≡ unload_all (filter f js) one → unload_all (cond b (j ∷ filter p js) (filter p js)) ms ≡ unload_all (cond (a && b) (j ∷ filter f js) (filter f js)) ms
    go false true e q r = q
    go false false e q r = q
    go true true e q r = r
    go true false e q r = ap (unload_all (filter p js)) (not_there ms j (dead e)) ∙ q

-- those that needn't stay are those that leave
leaving_has : (k : Links) (xs : List ℕ) → Stays k xs → IsOrdered k → (j : ℕ) → goes k.modules xs j ≡ has j (leaving k)
leaving_has k xs s o j = same_bool (goes k.modules xs j) (has j (leaving k))
    (λ e. ap (has j) (sym (leavers_leave k xs s)) ∙ has-keep (goes k.modules xs) j k.order (o j (and_parts (is_some (live_at k.modules j)) (not (has j xs)) e).0) e)
    (λ e. (keep-has (goes k.modules xs) j k.order (ap (has j) (leavers_leave k xs s) ∙ e)).1)

pub gone_leave : (k : Links) (xs js : List ℕ) → Stays k xs → IsOrdered k → gone (filter (λ j. not (has j xs)) js) k ≡ close.unload js k
gone_leave k xs js s o = ap (with_modules k) (skip_dead k.modules (λ j. not (has j xs)) js k.modules (λ j l. l) ∙ ap (λ is. unload_all is k.modules) (filter_same (goes k.modules xs) (λ j. has j (leaving k)) js (leaving_has k xs s o)))
