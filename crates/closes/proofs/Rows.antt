-- Rows gone through one by one.
use Rattle.std.specs.Prelude.{Bool, true, false, None, Option, Some, cond, slice_get, slice_index_or, min}
use Rattle.std.specs.List.{between}
use Rattle.std.specs.Option.{option_map}
use Rattle.std.proofs.Common.{◌≡◌, ℕ, zero, suc, ◌+◌, ◌-◌, ◌<◌, ◌≤◌, ⊎_elim, List, [], ◌∷◌, ◌++◌, map, length, get_or, drop, sym, refl, ap, ◌∙◌, add-one, arith}
use Rattle.std.proofs.lemmas.Bool.{cases_lt}
use Rattle.std.proofs.lemmas.List.{drop_more, drop_all, get_or_past}
use Rattle.std.proofs.lemmas.Option.{none-some, same_Some, slice_get-get_or}
use Rattle.base.specs.Choices.{opt, on_some, guard}
use Rattle.library.specs.Library.{Library}
use Rattle.lent.specs.Tables.{rows_in}
use Rattle.links.specs.Links as links
use Rattle.links.specs.Links.{Place}
use Rattle.links.specs.Close.{open_members, hosts}
use Rattle.linkage.specs.Rows.{binding_at}
use Rattle.linkage.specs.Tables.{numbered, number_in, bindings_from, module_at, module_of, library_at, links_of}
use Rattle.linkage.specs.declared.types.Module.{Module}
use Rattle.linkage.specs.declared.tables.Tables.{Tables}
use Rattle.closes.specs.Staying.{bound_of_one, open_at, none_or_one, gathered}
use Rattle.closes.proofs.Gathering.{gathered-append}

between_next : (rs : List (List ℕ)) (h t : ℕ) → h < t → h < length rs → between h t rs ≡ get_or rs h [] ∷ between (h + 1) t rs
between_next rs h t a l =
    let e : t - h ≡ suc (t - (h + 1)) = omega arith in
    let d = drop_more rs h [] l in rw (e, d) refl

between_end : (rs : List (List ℕ)) (h t : ℕ) → min t (length rs) ≤ h → between h t rs ≡ []
between_end rs h t b = ⊎_elim
    (λ (l : h < t). let e : t - h ≡ suc (t - (h + 1)) = omega arith in let d : drop h rs ≡ [] = drop_all h rs (omega arith) in rw (e, d) refl)
    (λ (l : t ≤ h). let e : t - h ≡ 0 = omega arith in rw e refl)
    (cases_lt h t)

-- the next of the members was put behind the others, or there is none
pub members_next : (rs : List (List ℕ)) (h t n : ℕ) (m : Option ℕ) (seen next : List ℕ) → h < min t (length rs) → m ≡ option_map number_in (slice_get rs h) → next ≡ gathered n (none_or_one m) seen → gathered n (map number_in (between (h + 1) t rs)) next ≡ gathered n (map number_in (between h t rs)) seen
members_next rs h t n m seen next l e q =
    let x = get_or rs h [] in
    let one : m ≡ Some (number_in x) = e ∙ ap (option_map number_in) (slice_get-get_or rs h [] (omega arith)) in
    ap (gathered n (map number_in (between (h + 1) t rs))) (q ∙ ap (λ o. gathered n (none_or_one o) seen) one)
    ∙ sym (ap (λ xs. gathered n (map number_in xs) seen) (between_next rs h t (omega arith) (omega arith)))

pub members_end : (rs : List (List ℕ)) (h t n : ℕ) (seen : List ℕ) → min t (length rs) ≤ h → gathered n (map number_in (between h t rs)) seen ≡ seen
members_end rs h t n seen b = ap (λ xs. gathered n (map number_in xs) seen) (between_end rs h t b)

-- the members of the next group
open_next : (gs : List links.Group) (i : ℕ) → i < length gs → open_members (drop i gs) ≡ open_at gs i ++ open_members (drop (suc i) gs)
open_next [] i h = absurd (omega arith)
open_next (g ∷ gs) zero h = refl
open_next (g ∷ gs) (suc i) h = open_next gs i (omega arith)

pub groups_next : (gs : List links.Group) (i n : ℕ) (seen next : List ℕ) → i < length gs → next ≡ gathered n (open_at gs i) seen → gathered n (open_members (drop (i + 1) gs)) next ≡ gathered n (open_members (drop i gs)) seen
groups_next gs i n seen next h q =
    let s = add-one i in
    rw s (ap (gathered n (open_members (drop (suc i) gs))) q
    ∙ sym (gathered-append n (open_at gs i) (open_members (drop (suc i) gs)) seen)
    ∙ sym (ap (λ xs. gathered n xs seen) (open_next gs i h)))

pub groups_end : (gs : List links.Group) (i n : ℕ) (seen : List ℕ) → length gs ≤ i → gathered n (open_members (drop i gs)) seen ≡ seen
groups_end gs i n seen h = ap (λ xs. gathered n (open_members xs) seen) (drop_all i gs h)

-- what the next cell is bound to
hosts_next : (o : Option Place) (bs : List (Option Place)) → hosts (o ∷ bs) ≡ none_or_one (option_map (λ p. p.host) o) ++ hosts bs
hosts_next None bs = refl
hosts_next (Some p) bs = refl

pub hosts_on : (rs : List (List ℕ)) (a e n : ℕ) (m : Option ℕ) (seen next : List ℕ) → a < e → m ≡ option_map (λ p. p.host) (binding_at (slice_index_or rs a [])) → next ≡ gathered n (none_or_one m) seen → gathered n (hosts (bindings_from rs (a + 1) (e - (a + 1)))) next ≡ gathered n (hosts (bindings_from rs a (e - a))) seen
hosts_on rs a e n m seen next l f q =
    let s = add-one a in
    let z : e - a ≡ suc (e - suc a) = omega arith in
    let b = binding_at (slice_index_or rs a []) in
    let bs = bindings_from rs (suc a) (e - suc a) in
    rw (s, z) (ap (gathered n (hosts bs)) (q ∙ ap (λ o. gathered n (none_or_one o) seen) f)
    ∙ sym (gathered-append n (none_or_one (option_map (λ p. p.host) b)) (hosts bs) seen)
    ∙ sym (ap (λ xs. gathered n xs seen) (hosts_next b bs)))

hosts_past : (rs : List (List ℕ)) (a n : ℕ) → length rs ≤ a → hosts (bindings_from rs a n) ≡ []
hosts_past rs a zero h = refl
hosts_past rs a (suc n) h = ap (λ r. hosts (binding_at r ∷ bindings_from rs (suc a) n)) (get_or_past rs a [] h) ∙ hosts_past rs (suc a) n (omega arith)

pub hosts_end : (rs : List (List ℕ)) (a e n : ℕ) (seen : List ℕ) → min e (length rs) ≤ a → gathered n (hosts (bindings_from rs a (e - a))) seen ≡ seen
hosts_end rs a e n seen h = ap (λ xs. gathered n xs seen) (⊎_elim
    (λ (l : a < e). hosts_past rs a (e - a) (omega arith))
    (λ (l : e ≤ a). let z : e - a ≡ 0 = omega arith in ap (λ m. hosts (bindings_from rs a m)) z)
    (cases_lt a e))

-- modules by their rows
pub length-numbered : {X : Type 0} (f : ℕ → List ℕ → X) (a : ℕ) (rs : List (List ℕ)) → length (numbered f a rs) ≡ length rs
length-numbered f a [] = refl
length-numbered f a (r ∷ rs) = ap suc (length-numbered f (suc a) rs)

pub slice_get-numbered : {X : Type 0} (f : ℕ → List ℕ → X) (a : ℕ) (rs : List (List ℕ)) (i b : ℕ) → b ≡ a + i → slice_get (numbered f a rs) i ≡ option_map (f b) (slice_get rs i)
slice_get-numbered f a [] i b e = refl
slice_get-numbered f a (r ∷ rs) zero b e = let q : a ≡ b = omega arith in ap (λ n. Some (f n r)) q
slice_get-numbered f a (r ∷ rs) (suc i) b e = slice_get-numbered f (suc a) rs i b (omega arith)

-- what a module is bound to, as the tables say it
pub bound_one : (ls : List Library) (t : Tables) (i : ℕ) (m : Module) → Some m ≡ option_map (module_at t i) (slice_get (rows_in 3 t.modules) i) → bound_of_one (links_of ls t).modules i ≡ cond m.live (hosts (bindings_from (rows_in 2 t.bindings) m.load.base (length (library_at ls m.load.library.0).cells))) []
bound_one ls t i m e = go (slice_get (rows_in 3 t.modules) i) refl e
  where
    Bound : Module → List ℕ
    Bound x = cond x.live (hosts (bindings_from (rows_in 2 t.bindings) x.load.base (length (library_at ls x.load.library.0).cells))) []

    live : (x : links.Module) (b : Bool) → opt (guard b (Some x)) [] (λ y. hosts y.bound) ≡ cond b (hosts x.bound) []
    live x true = refl
    live x false = refl

    go : (o : Option (List ℕ)) → slice_get (rows_in 3 t.modules) i ≡ o → Some m ≡ option_map (module_at t i) o → bound_of_one (links_of ls t).modules i ≡ Bound m
    go None q p = absurd (none-some _ (sym p))
    go (Some r) q p =
        ap (λ o. opt (on_some o (λ x. guard x.live (Some x))) [] (λ x. hosts x.bound)) (slice_get-numbered (module_of ls t) 0 (rows_in 3 t.modules) i i (omega arith) ∙ ap (option_map (module_of ls t i)) q)
        ∙ live (module_of ls t i r) (module_of ls t i r).live
        ∙ ap Bound (sym (same_Some _ _ p))

pub bound_none : (ls : List Library) (t : Tables) (i : ℕ) → None ≡ option_map (module_at t i) (slice_get (rows_in 3 t.modules) i) → bound_of_one (links_of ls t).modules i ≡ []
bound_none ls t i e = go (slice_get (rows_in 3 t.modules) i) refl e
  where
    go : (o : Option (List ℕ)) → slice_get (rows_in 3 t.modules) i ≡ o → None ≡ option_map (module_at t i) o → bound_of_one (links_of ls t).modules i ≡ []
    go None q p = ap (λ o. opt (on_some o (λ x. guard x.live (Some x))) [] (λ x. hosts x.bound)) (slice_get-numbered (module_of ls t) 0 (rows_in 3 t.modules) i i (omega arith) ∙ ap (option_map (module_of ls t i)) q)
    go (Some r) q p = absurd (none-some _ p)
