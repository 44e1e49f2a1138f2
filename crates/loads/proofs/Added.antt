-- The modules of the tables, and one more behind them.
use Rattle.std.specs.Prelude.{Bool, true, false, Option, None, Some, slice_get, slice_set, slice_index}
use Rattle.std.specs.Option.{option_map}
use Rattle.std.proofs.Common.{◌≡◌, ℕ, suc, ◌+◌, ◌<◌, ◌≤◌, eqb, ⊎_elim, List, [], ◌∷◌, ◌++◌, length, sym, refl, ap, ◌∙◌, arith}
use Rattle.std.proofs.lemmas.Bool.{cases_eq, cases_lt, ne_eqb, eq-eqb}
use Rattle.std.proofs.lemmas.List.{get_or-set_same, get_or-set_other}
use Rattle.std.proofs.lemmas.Option.{none-some, same_Some, slice_get_past}
use Rattle.base.proofs.Lists.{slice_get_push}
use Rattle.base.specs.Choices.{on_some, guard}
use Rattle.library.specs.Library.{Library}
use Rattle.lent.specs.Tables.{rows_in}
use Rattle.lent.specs.declared.table.Table.{Table}
use Rattle.lent.proofs.Rows.{rows_len}
use Rattle.links.specs.Links as links
use Rattle.linkage.specs.Rows.{load_at}
use Rattle.linkage.specs.Tables.{numbered, bindings_from, library_at, module_at, module_of, links_of, live_in}
use Rattle.linkage.specs.declared.types.Load.{Load}
use Rattle.linkage.specs.declared.types.Module.{Module}
use Rattle.linkage.specs.declared.tables.Tables.{Tables}
use Rattle.loads.specs.Adding.{IsAbsent, new_module}

-- rows read by g as they were by f, and one more row
numbered_pushed : {X : Type 0} (f g : ℕ → List ℕ → X) (a n : ℕ) (rs : List (List ℕ)) (row : List ℕ) (x : X) → a + length rs ≡ n → ((j b : ℕ) (r : List ℕ) → b ≡ a + j → slice_get rs j ≡ Some r → g b r ≡ f b r) → g n row ≡ x → numbered g a (rs ++ row ∷ []) ≡ numbered f a rs ++ x ∷ []
numbered_pushed f g a n [] row x e same last = let q : a ≡ n = omega arith in λ t. (ap (λ m. g m row) q ∙ last) t ∷ []
numbered_pushed f g a n (r ∷ rs) row x e same last = λ t. same 0 a r (omega arith) refl t ∷ numbered_pushed f g (suc a) n rs row x (omega arith) (λ j b s p q. same (suc j) b s (omega arith) q) last t

-- the word of library k names module n now: no module before it is live that wasn't
live_before : (ws : List ℕ) (k n b l : ℕ) → k < length ws → b < n → (l ≡ k → eqb (slice_index ws l) (suc b) ≡ false) → eqb (slice_index (slice_set ws k (n + 1)) l) (suc b) ≡ eqb (slice_index ws l) (suc b)
live_before ws k n b l h m dead = ⊎_elim
    (λ (q : l ≡ k). ne_eqb (slice_index (slice_set ws k (n + 1)) l) (suc b) (λ p. clash p (ap (slice_index (slice_set ws k (n + 1))) q ∙ get_or-set_same ws k (n + 1) 0 h)) ∙ sym (dead q))
    (λ (q : l ≡ k → ⊥). ap (λ w. eqb w (suc b)) (get_or-set_other ws k l (n + 1) 0 q))
    (cases_eq l k)
  where
    clash : slice_index (slice_set ws k (n + 1)) l ≡ suc b → slice_index (slice_set ws k (n + 1)) l ≡ n + 1 → ⊥
    clash p z = omega arith

live_new : (ws : List ℕ) (k n : ℕ) → k < length ws → eqb (slice_index (slice_set ws k (n + 1)) k) (suc n) ≡ true
live_new ws k n h = let q : slice_index (slice_set ws k (n + 1)) k ≡ suc n = get_or-set_same ws k (n + 1) 0 h ∙ omega arith in eq-eqb (slice_index (slice_set ws k (n + 1)) k) (suc n) q

-- a live module, by its row
abbrev there : Module → Option Module
there m = guard m.live (Some m)

live_row : (t : Tables) (j : ℕ) (r : List ℕ) → slice_get (rows_in 3 t.modules) j ≡ Some r → (module_at t j r).live ≡ true → live_in t j ≡ Some (module_at t j r)
live_row t j r q p = ap (λ o. on_some (option_map (module_at t j) o) there) q ∙ ap (λ b. guard b (Some (module_at t j r))) p

-- the same, by the rows of the modules and the words of the libraries alone
abbrev module_by : List ℕ → ℕ → List ℕ → Module
module_by ws j r = record { load = load_at r; live = eqb (slice_index ws (slice_index r 0)) (suc j) }

abbrev pub live_by : Table 3 → List ℕ → ℕ → Option Module
live_by ms ws j = on_some (option_map (module_by ws j) (slice_get (rows_in 3 ms) j)) there

row_live : {P : Type 0} (ms : Table 3) (ws : List ℕ) (j : ℕ) (m : Module) → live_by ms ws j ≡ Some m → ((r : List ℕ) → slice_get (rows_in 3 ms) j ≡ Some r → (module_by ws j r).live ≡ true → m ≡ module_by ws j r → P) → P
row_live {P} ms ws j m e k = go (slice_get (rows_in 3 ms) j) refl e
  where
    live : (r : List ℕ) (b : Bool) → (module_by ws j r).live ≡ b → slice_get (rows_in 3 ms) j ≡ Some r → guard b (Some (module_by ws j r)) ≡ Some m → P
    live r true l q p = k r q l (sym (same_Some _ _ p))
    live r false l q p = absurd (none-some _ p)

    go : (o : Option (List ℕ)) → slice_get (rows_in 3 ms) j ≡ o → on_some (option_map (module_by ws j) o) there ≡ Some m → P
    go None q p = absurd (none-some _ p)
    go (Some r) q p = live r (module_by ws j r).live refl q p

-- a row of a library that isn't there has no live module
absent : (t : Tables) (k j : ℕ) (r : List ℕ) → IsAbsent t k → slice_get (rows_in 3 t.modules) j ≡ Some r → slice_index r 0 ≡ k → (module_at t j r).live ≡ false
absent t k j r none q e = go (module_at t j r).live refl
  where
    go : (b : Bool) → (module_at t j r).live ≡ b → (module_at t j r).live ≡ false
    go false p = p
    go true p = absurd (none j (module_at t j r) (live_row t j r q p) e)

-- another library that isn't there still isn't, once the row of a load was put behind the others
pub absent_still : (t : Tables) (ms : Table 3) (load : Load) (row : List ℕ) (k n : ℕ) → rows_in 3 ms ≡ rows_in 3 t.modules ++ row ∷ [] → load_at row ≡ load → (k ≡ load.library.0 → ⊥) → IsAbsent t k → (j : ℕ) (m : Module) → live_by ms (slice_set t.loaded.now load.library.0 n) j ≡ Some m → m.load.library.0 ≡ k → ⊥
absent_still t ms load row k n rows e other none j m here is = row_live ms (slice_set t.loaded.now load.library.0 n) j m here (λ r q l s.
    let library : slice_index r 0 ≡ k = sym (ap (λ (x : Module). x.load.library.0) s) ∙ is in
    ⊎_elim
    (λ p. none j (module_at t j r) (live_row t j r p (ap (λ w. eqb w (suc j)) (sym (word r library)) ∙ l)) library)
    (λ p. other (sym library ∙ ap (λ s. slice_index s 0) (sym p.1) ∙ ap (λ (x : Load). x.library.0) e))
    (slice_get_push (rows_in 3 t.modules) row j r (sym (ap (λ rs. slice_get rs j) rows) ∙ q)))
  where
    word : (r : List ℕ) → slice_index r 0 ≡ k → slice_index (slice_set t.loaded.now load.library.0 n) (slice_index r 0) ≡ slice_index t.loaded.now (slice_index r 0)
    word r library = get_or-set_other t.loaded.now load.library.0 (slice_index r 0) n 0 (λ p. other (sym library ∙ p))

-- a module by its load, live or not
abbrev pub made : List Library → Tables → Bool → Load → links.Module
made ls t b l = record { lib = library_at ls l.library.0; live = b; group = l.group; bound = bindings_from (rows_in 2 t.bindings) l.base (length (library_at ls l.library.0).cells) }

-- the modules once the row of a load was put behind the others, and the word of its library names it
pub added : (ls : List Library) (t : Tables) (load : Load) (row : List ℕ) → load.library.0 < length t.loaded.now → load_at row ≡ load → IsAbsent t load.library.0 → numbered (λ b r. made ls t (eqb (slice_index (slice_set t.loaded.now load.library.0 (t.modules.len + 1)) (slice_index r 0)) (suc b)) (load_at r)) 0 (rows_in 3 t.modules ++ row ∷ []) ≡ (links_of ls t).modules ++ new_module ls t load ∷ []
added ls t load row h e none = numbered_pushed (module_of ls t) (λ b r. made ls t (live b (load_at r)) (load_at r)) 0 n rs row (new_module ls t load) (omega (arith, count))
    (λ j b r p q. ap (λ v. made ls t v (load_at r)) (live_before ws k n b (slice_index r 0) h (below j b r p q) (λ l. dead j b r p q l)))
    (ap (λ l. made ls t (live n l) l) e ∙ ap (λ v. made ls t v load) (live_new ws k n h))
  where
    ws : List ℕ
    ws = t.loaded.now

    k : ℕ
    k = load.library.0

    n : ℕ
    n = t.modules.len

    rs : List (List ℕ)
    rs = rows_in 3 t.modules

    count : length rs ≡ n
    count = rows_len 3 t.modules.words.now t.modules.len

    live : ℕ → Load → Bool
    live b l = eqb (slice_index (slice_set ws k (n + 1)) l.library.0) (suc b)

    below : (j b : ℕ) (r : List ℕ) → b ≡ 0 + j → slice_get rs j ≡ Some r → b < n
    below j b r p q = ⊎_elim (λ (l : j < length rs). omega (arith, count, l, p)) (λ (l : length rs ≤ j). absurd (none-some _ (sym (slice_get_past rs j l) ∙ q))) (cases_lt j (length rs))

    dead : (j b : ℕ) (r : List ℕ) → b ≡ 0 + j → slice_get rs j ≡ Some r → slice_index r 0 ≡ k → eqb (slice_index ws (slice_index r 0)) (suc b) ≡ false
    dead j b r p q l = let s : b ≡ j = omega (arith, p) in rw s (absent t k j r none q l)
