-- Live modules: of other lists with the same keys, of lists grown, bound or unloaded.
use Rattle.std.proofs.lemmas.Option.{slice_get_within, none-some, same_Some}
use Rattle.std.specs.Prelude.{None, Option, Some, cond, is_some, slice_get, slice_set}
use Rattle.std.proofs.Common.{◌≡◌, ℕ, zero, suc, ◌+◌, Bool, true, false, ◌&&◌, eqb, ◌⊎◌, List, [], ◌∷◌, ◌++◌, map, length, sym, refl, ap, ◌∙◌, inl, inr, ⊎_elim, arith}
use Rattle.base.specs.Choices.{opt, on_some, guard}
use Rattle.base.specs.Lists.{has}
use Rattle.base.specs.Names.{Name, same}
use Rattle.base.proofs.Lists.{slice_get_left, slice_get_push, slice_get-set_same, slice_get-set_other}
use Rattle.base.proofs.Names.{same_is, same_self}
use Rattle.library.specs.Library.{Library, find_library}
use Rattle.links.specs.Links.{Module, key}
use Rattle.links.specs.Scope.{live_at}
use Rattle.links.specs.Load.{find_loaded}
use Rattle.links.specs.Close.{unloaded, unload_all}
use Rattle.links.specs.Whole.{Live, OneEach}
use Rattle.links.proofs.Keys.{live_inv, live_from, same_key}
use Rattle.std.proofs.lemmas.Bool.{cases_eq, and_parts, ne_eqb, or_from, or_parts, eqb-false}

-- what is there is a module
pub live_is : (ms : List Module) (i : ℕ) → Live ms i → (x : Module) × (live_at ms i ≡ Some x)
live_is ms i e = go (live_at ms i) e
  where
    go : (o : Option Module) → is_some o ≡ true → (x : Module) × (o ≡ Some x)
    go None e = let z : ◌≡◌ {A = ℕ} 0 1 = cc in absurd (omega arith)
    go (Some x) e = (x, refl)

pub is_live : (ms : List Module) (i : ℕ) (x : Module) → live_at ms i ≡ Some x → Live ms i
is_live ms i x e = ap is_some e

-- in a list with the same keys
pub live_keys : (ms ns : List Module) → map key ms ≡ map key ns → (i : ℕ) (x : Module) → live_at ms i ≡ Some x → (y : Module) × (live_at ns i ≡ Some y) × (key y ≡ key x)
live_keys ms ns e i x q = let p = live_inv ms i x q in let t = same_key ms ns e i x p.0 in (t.0, live_from ns i t.0 t.1 (ap (λ z. z.live) t.2 ∙ p.1), t.2)

pub LiveKeys : (ms ns : List Module) → map key ms ≡ map key ns → (i : ℕ) → Live ms i → Live ns i
LiveKeys ms ns e i h = let p = live_is ms i h in let t = live_keys ms ns e i p.0 p.1 in is_live ns i t.0 t.1

pub one_keys : (ms ns : List Module) → map key ns ≡ map key ms → OneEach ms → OneEach ns
one_keys ms ns e o i j x y p q h = let a = live_keys ns ms e i x p in let b = live_keys ns ms e j y q in o i j a.0 b.0 a.1 b.1 (ap (λ z. z.lib.name) a.2 ∙ h ∙ ap (λ z. z.lib.name) (sym b.2))

-- in a longer list
pub live_left : (ms ns : List Module) (i : ℕ) (x : Module) → live_at ms i ≡ Some x → live_at (ms ++ ns) i ≡ Some x
live_left ms ns i x e = let p = live_inv ms i x e in live_from (ms ++ ns) i x (slice_get_left ms ns i x p.0) p.1

pub LiveLeft : (ms ns : List Module) (i : ℕ) → Live ms i → Live (ms ++ ns) i
LiveLeft ms ns i h = let p = live_is ms i h in is_live (ms ++ ns) i p.0 (live_left ms ns i p.0 p.1)

pub live_push : (ms : List Module) (y : Module) (i : ℕ) (x : Module) → live_at (ms ++ (y ∷ [])) i ≡ Some x → (live_at ms i ≡ Some x) ⊎ ((i ≡ length ms) × (y ≡ x))
live_push ms y i x e = let p = live_inv (ms ++ (y ∷ [])) i x e in ⊎_elim (λ q. inl (live_from ms i x q p.1)) inr (slice_get_push ms y i x p.0)

-- the live module of a name
pub find_named : (ls : List Library) (x : Name) (l : Library) → find_library ls x ≡ Some l → l.name ≡ x
find_named [] x l e = absurd (none-some _ e)
find_named (k ∷ ls) x l e = go (same k.name x) refl e (find_named ls x l)
  where
    go : (b : Bool) → same k.name x ≡ b → cond b (Some k) (find_library ls x) ≡ Some l → (find_library ls x ≡ Some l → l.name ≡ x) → l.name ≡ x
    go true q e r = ap (λ z. z.name) (sym (same_Some _ _ e)) ∙ same_is k.name x q
    go false q e r = r e

pub loaded_is : (ms : List Module) (n : ℕ) (x : Name) (j : ℕ) → find_loaded ms n x ≡ Some j → (i : ℕ) × (y : Module) × (j ≡ n + i) × (live_at ms i ≡ Some y) × (y.lib.name ≡ x)
loaded_is [] n x j e = absurd (none-some _ e)
loaded_is (m ∷ ms) n x j e = go (m.live && same m.lib.name x) refl e (loaded_is ms (suc n) x j)
  where
    go : (b : Bool) → (m.live && same m.lib.name x) ≡ b → cond b (Some n) (find_loaded ms (suc n) x) ≡ Some j → (find_loaded ms (suc n) x ≡ Some j → (i : ℕ) × (y : Module) × (j ≡ suc n + i) × (live_at ms i ≡ Some y) × (y.lib.name ≡ x)) → (i : ℕ) × (y : Module) × (j ≡ n + i) × (live_at (m ∷ ms) i ≡ Some y) × (y.lib.name ≡ x)
    go true q e r = let p = and_parts m.live (same m.lib.name x) q in (0, m, omega (arith, same_Some _ _ e), live_from (m ∷ ms) 0 m refl p.0, same_is m.lib.name x p.1)
    go false q e r = let t = r e in (suc t.0, t.1, omega (arith, t.2), t.3, t.4)

pub loaded_none : (ms : List Module) (n : ℕ) (x : Name) → find_loaded ms n x ≡ None → (i : ℕ) (y : Module) → live_at ms i ≡ Some y → y.lib.name ≡ x → ⊥
loaded_none [] n x e i y q h = none-some _ q
loaded_none (m ∷ ms) n x e zero y q h = go (m.live && same m.lib.name x) refl e
  where
    go : (b : Bool) → (m.live && same m.lib.name x) ≡ b → cond b (Some n) (find_loaded ms (suc n) x) ≡ None → ⊥
    go true p e = none-some _ (sym e)
    go false p e = let t = live_inv (m ∷ ms) zero y q in let s = same_Some _ _ t.0 in let z : true ≡ false = sym (λ i. (ap (λ z. z.live) s ∙ t.1) i && (ap (λ z. same z.lib.name x) s ∙ ap (λ w. same w x) h ∙ same_self x) i) ∙ p in let w : ◌≡◌ {A = ℕ} 0 1 = cc in omega arith
loaded_none (m ∷ ms) n x e (suc i) y q h = loaded_none ms (suc n) x (rest (m.live && same m.lib.name x) e) i y q h
  where
    rest : (b : Bool) → cond b (Some n) (find_loaded ms (suc n) x) ≡ None → find_loaded ms (suc n) x ≡ None
    rest true e = absurd (none-some _ (sym e))
    rest false e = e

-- unloaded: those of ds, no other
module _ (ms : List Module) (d : ℕ) (x : Module) (e : slice_get ms d ≡ Some x) where
  gone_here : live_at (slice_set ms d (unloaded x)) d ≡ None
  gone_here = ap (λ o. on_some o (λ z. guard z.live (Some z))) (slice_get-set_same ms d (unloaded x) (slice_get_within ms d x e))

  gone_other : (i : ℕ) → (i ≡ d → ⊥) → live_at (slice_set ms d (unloaded x)) i ≡ live_at ms i
  gone_other i h = ap (λ o. on_some o (λ z. guard z.live (Some z))) (slice_get-set_other ms d i (unloaded x) h)

one_gone : (ms : List Module) (d i : ℕ) (x : Module) → live_at (opt (slice_get ms d) ms (λ y. slice_set ms d (unloaded y))) i ≡ Some x → (live_at ms i ≡ Some x) × (eqb i d ≡ false)
one_gone ms d i x e = go (slice_get ms d) refl e
  where
    go : (o : Option Module) → slice_get ms d ≡ o → live_at (opt o ms (λ y. slice_set ms d (unloaded y))) i ≡ Some x → (live_at ms i ≡ Some x) × (eqb i d ≡ false)
    go None q e = (e, ne_eqb i d (λ p. none-some _ (sym q ∙ ap (slice_get ms) (sym p) ∙ (live_inv ms i x e).0)))
    go (Some y) q e = ⊎_elim (λ p. absurd (none-some _ (sym (gone_here ms d y q) ∙ ap (live_at (slice_set ms d (unloaded y))) (sym p) ∙ e))) (λ p. (sym (gone_other ms d y q i p) ∙ e, ne_eqb i d p)) (cases_eq i d)

one_stays : (ms : List Module) (d i : ℕ) (x : Module) → live_at ms i ≡ Some x → eqb i d ≡ false → live_at (opt (slice_get ms d) ms (λ y. slice_set ms d (unloaded y))) i ≡ Some x
one_stays ms d i x e h = go (slice_get ms d) refl
  where
    go : (o : Option Module) → slice_get ms d ≡ o → live_at (opt o ms (λ y. slice_set ms d (unloaded y))) i ≡ Some x
    go None q = e
    go (Some y) q = gone_other ms d y q i (eqb-false i d h) ∙ e

pub unload_inv : (ds : List ℕ) (ms : List Module) (i : ℕ) (x : Module) → live_at (unload_all ds ms) i ≡ Some x → (live_at ms i ≡ Some x) × (has i ds ≡ false)
unload_inv [] ms i x e = (e, refl)
unload_inv (d ∷ ds) ms i x e = let p = unload_inv ds (opt (slice_get ms d) ms (λ y. slice_set ms d (unloaded y))) i x e in let q = one_gone ms d i x p.0 in (q.0, or_from (eqb i d) (has i ds) q.1 p.1)

pub unload_stays : (ds : List ℕ) (ms : List Module) (i : ℕ) (x : Module) → live_at ms i ≡ Some x → has i ds ≡ false → live_at (unload_all ds ms) i ≡ Some x
unload_stays [] ms i x e h = e
unload_stays (d ∷ ds) ms i x e h = let p = or_parts (eqb i d) (has i ds) h in unload_stays ds (opt (slice_get ms d) ms (λ y. slice_set ms d (unloaded y))) i x (one_stays ms d i x e p.0) p.1
