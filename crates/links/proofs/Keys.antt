-- Names are looked up by libraries, lives and groups alone.
use Rattle.std.proofs.lemmas.Option.{slice_get-map, same_Some}
use Rattle.std.specs.List.{AllByRecursion}
use Rattle.std.specs.Option.{option_map}
use Rattle.std.specs.Prelude.{None, Option, Some, cond, slice_get, slice_set}
use Rattle.std.proofs.Common.{◌≡◌, ℕ, zero, suc, ◌<◌, Bool, true, false, eqb, List, [], ◌∷◌, ◌++◌, map, sym, refl, ap, ◌∙◌, arith}
use Rattle.base.specs.Choices.{opt, on_some, guard}
use Rattle.library.specs.Library.{Symbol, Definition}
use Rattle.links.specs.Symbols.{matches, find_def}
use Rattle.links.specs.Links.{Place, place_at, Module, Group, Key, key, Links, with_modules}
use Rattle.links.specs.Scope.{live_at, global_members, members_of, scope, lookup}
use Rattle.links.specs.Laws.{ResolveStable}

abbrev found : ℕ → Symbol → ℕ → Option Key → Option Place
found me y j None = None
found me y j (Some q) = on_some (guard q.live (Some q)) (λ q. on_some (find_def (eqb me j) q.lib.defs y) (λ k. Some (place_at j k)))

found_is : (is : List Module) (me : ℕ) (y : Symbol) (j : ℕ) → on_some (live_at is j) (λ x. on_some (find_def (eqb me j) x.lib.defs y) (λ k. Some (place_at j k))) ≡ found me y j (option_map key (slice_get is j))
found_is is me y j = go (slice_get is j)
  where
    live_go : (x : Module) (b : Bool) → on_some (guard b (Some x)) (λ x. on_some (find_def (eqb me j) x.lib.defs y) (λ k. Some (place_at j k))) ≡ on_some (guard b (Some (key x))) (λ q. on_some (find_def (eqb me j) q.lib.defs y) (λ k. Some (place_at j k)))
    live_go x true = refl
    live_go x false = refl

    go : (o : Option Module) → on_some (on_some o (λ x. guard x.live (Some x))) (λ x. on_some (find_def (eqb me j) x.lib.defs y) (λ k. Some (place_at j k))) ≡ found me y j (option_map key o)
    go None = refl
    go (Some x) = live_go x x.live

pub over_key : (is is' : List Module) → map key is ≡ map key is' → (j : ℕ) → option_map key (slice_get is j) ≡ option_map key (slice_get is' j)
over_key is is' e j = sym (slice_get-map key is j) ∙ ap (λ z. slice_get z j) e ∙ slice_get-map key is' j

pub look_same : (is is' : List Module) → map key is ≡ map key is' → (me : ℕ) (y : Symbol) (js : List ℕ) → lookup is me y js ≡ lookup is' me y js
look_same is is' e me y [] = refl
look_same is is' e me y (j ∷ js) = λ t. opt (one t) (look_same is is' e me y js t) Some
  where
    one : on_some (live_at is j) (λ x. on_some (find_def (eqb me j) x.lib.defs y) (λ k. Some (place_at j k))) ≡ on_some (live_at is' j) (λ x. on_some (find_def (eqb me j) x.lib.defs y) (λ k. Some (place_at j k)))
    one = found_is is me y j ∙ ap (found me y j) (over_key is is' e j) ∙ sym (found_is is' me y j)

abbrev scoped : List Group → ℕ → Option Key → List ℕ
scoped gs i None = []
scoped gs i (Some q) = cond q.lib.inward (i ∷ []) [] ++ (global_members gs ++ members_of gs q.group)

scoped_is : (s : Links) (i : ℕ) → scope s i ≡ scoped s.groups i (option_map key (slice_get s.modules i))
scoped_is s i = go (slice_get s.modules i)
  where
    go : (o : Option Module) → opt o [] (λ x. cond x.lib.inward (i ∷ []) [] ++ (global_members s.groups ++ members_of s.groups x.group)) ≡ scoped s.groups i (option_map key o)
    go None = refl
    go (Some x) = refl

pub scope_same : (s : Links) (is : List Module) → map key s.modules ≡ map key is → (i : ℕ) → scope s i ≡ scope (with_modules s is) i
scope_same s is e i = scoped_is s i ∙ ap (scoped s.groups i) (over_key s.modules is e i) ∙ sym (scoped_is (with_modules s is) i)

pub resolve_stable : ResolveStable
resolve_stable k ms e me y = λ t. both t
  where
    same_scope : scope (with_modules k ms) me ≡ scope k me
    same_scope = sym (scope_same k ms (sym e) me)

    both : lookup ms me y (scope (with_modules k ms) me) ≡ lookup k.modules me y (scope k me)
    both = ap (lookup ms me y) same_scope ∙ look_same ms k.modules e me y (scope k me)

-- one module replaced by one that has the same key
pub put_key : (is : List Module) (i : ℕ) (x y : Module) → slice_get is i ≡ Some x → key y ≡ key x → map key (slice_set is i y) ≡ map key is
put_key [] i x y e q = refl
put_key (z ∷ is) zero x y e q = let p : z ≡ x = cc in λ t. (q ∙ ap key (sym p)) t ∷ map key is
put_key (z ∷ is) (suc i) x y e q = ap (λ t. key z ∷ t) (put_key is i x y e q)

pub find_def_in : (mine : Bool) (ds : List Definition) (y : Symbol) (z a : ℕ) → AllByRecursion (λ d. d.cell < z) ds → find_def mine ds y ≡ Some a → a < z
find_def_in mine [] y z a h e = let q : ◌≡◌ {A = ℕ} 0 1 = cc in absurd (omega arith)
find_def_in mine (d ∷ ds) y z a h e = go (matches mine y d) e (find_def_in mine ds y z a h.1)
  where
    go : (b : Bool) → cond b (Some d.cell) (find_def mine ds y) ≡ Some a → (find_def mine ds y ≡ Some a → a < z) → a < z
    go true e r = let q : d.cell ≡ a = cc in omega (arith, h.0)
    go false e r = r e

-- what a name means is a cell of a library that's there
pub look_in : (is : List Module) (me : ℕ) (y : Symbol) (js : List ℕ) (p : Place) → lookup is me y js ≡ Some p → (x : Module) × (mine : Bool) × (slice_get is p.host ≡ Some x) × (x.live ≡ true) × (find_def mine x.lib.defs y ≡ Some p.cell)
look_in is me y [] p e = let q : ◌≡◌ {A = ℕ} 0 1 = cc in absurd (omega arith)
look_in is me y (j ∷ js) p e = go (slice_get is j) refl e (look_in is me y js p)
  where
    Goal : Type 0
    Goal = (x : Module) × (mine : Bool) × (slice_get is p.host ≡ Some x) × (x.live ≡ true) × (find_def mine x.lib.defs y ≡ Some p.cell)

    def_go : (x : Module) → slice_get is j ≡ Some x → x.live ≡ true → (o : Option ℕ) → find_def (eqb me j) x.lib.defs y ≡ o → opt (on_some o (λ k. Some (place_at j k))) (lookup is me y js) Some ≡ Some p → (lookup is me y js ≡ Some p → Goal) → Goal
    def_go x ei el None ed e r = r e
    def_go x ei el (Some k) ed e r = let q : place_at j k ≡ p = cc in (x, eqb me j, ap (λ z. slice_get is z.host) (sym q) ∙ ei, el, ed ∙ ap (λ z. Some z.cell) q)

    live_go : (x : Module) → slice_get is j ≡ Some x → (b : Bool) → x.live ≡ b → opt (on_some (guard b (Some x)) (λ x. on_some (find_def (eqb me j) x.lib.defs y) (λ k. Some (place_at j k)))) (lookup is me y js) Some ≡ Some p → (lookup is me y js ≡ Some p → Goal) → Goal
    live_go x ei true el e r = def_go x ei el (find_def (eqb me j) x.lib.defs y) refl e r
    live_go x ei false el e r = r e

    go : (o : Option Module) → slice_get is j ≡ o → opt (on_some (on_some o (λ x. guard x.live (Some x))) (λ x. on_some (find_def (eqb me j) x.lib.defs y) (λ k. Some (place_at j k)))) (lookup is me y js) Some ≡ Some p → (lookup is me y js ≡ Some p → Goal) → Goal
    go None ei e r = r e
    go (Some x) ei e r = live_go x ei x.live refl e r

-- a module that is live, taken apart
pub live_inv : (is : List Module) (j : ℕ) (x : Module) → live_at is j ≡ Some x → (slice_get is j ≡ Some x) × (x.live ≡ true)
live_inv is j x e = go (slice_get is j) e
  where
    live_go : (y : Module) (b : Bool) → y.live ≡ b → guard b (Some y) ≡ Some x → (Some y ≡ Some x) × (x.live ≡ true)
    live_go y true q e = (e, ap (λ z. z.live) (sym (same_Some _ _ e)) ∙ q)
    live_go y false q e = let z : ◌≡◌ {A = ℕ} 0 1 = cc in absurd (omega arith)

    go : (o : Option Module) → on_some o (λ x. guard x.live (Some x)) ≡ Some x → (o ≡ Some x) × (x.live ≡ true)
    go None e = let z : ◌≡◌ {A = ℕ} 0 1 = cc in absurd (omega arith)
    go (Some y) e = live_go y y.live refl e

pub live_from : (is : List Module) (j : ℕ) (x : Module) → slice_get is j ≡ Some x → x.live ≡ true → live_at is j ≡ Some x
live_from is j x e q = rw (e, q)

-- the module at the same number in a list with the same keys
pub same_key : (is ms : List Module) → map key is ≡ map key ms → (j : ℕ) (x : Module) → slice_get is j ≡ Some x → (y : Module) × (slice_get ms j ≡ Some y) × (key y ≡ key x)
same_key is ms e j x q = go (slice_get ms j) refl
  where
    go : (o : Option Module) → slice_get ms j ≡ o → (y : Module) × (slice_get ms j ≡ Some y) × (key y ≡ key x)
    go None p = let r : None ≡ Some (key x) = sym (ap (option_map key) p) ∙ sym (over_key is ms e j) ∙ ap (option_map key) q in let z : ◌≡◌ {A = ℕ} 0 1 = cc in absurd (omega arith)
    go (Some y) p = (y, p, same_Some _ _ (sym (ap (option_map key) p) ∙ sym (over_key is ms e j) ∙ ap (option_map key) q))
