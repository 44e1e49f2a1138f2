-- Modules that keep their libraries, and of which some may be gone: their memory stays as it is.
use Rattle.std.proofs.lemmas.List.{length-set}
use Rattle.std.proofs.lemmas.Option.{slice_get_within, same_Some}
use Rattle.std.specs.Prelude.{None, Option, Some, slice_get, slice_set}
use Rattle.std.proofs.Common.{◌≡◌, ℕ, true, List, [], ◌∷◌, length, sym, refl, ap, ◌∙◌, ⊎_elim, arith}
use Rattle.std.proofs.lemmas.Bool.{cases_eq}
use Rattle.base.specs.Choices.{opt}
use Rattle.base.proofs.Lists.{slice_get-set_same, slice_get-set_other}
use Rattle.library.specs.Library.{Library}
use Rattle.links.specs.Links.{Module, Links, with_modules}
use Rattle.links.specs.Scope.{live_at}
use Rattle.links.specs.Close.{unloaded, unload_all}
use Rattle.links.proofs.Keys.{live_inv, live_from}
use Rattle.meaning.specs.State.{Held}
use Rattle.simulation.specs.Layout.{Layout, Ground}
use Rattle.simulation.specs.Relation.{Kept, Mem}

-- ms' has the libraries of ms, and no more live ones
pub record Under (ms ms' : List Module) : Type 0 where
  pub count : length ms' ≡ length ms
  pub old : (i : ℕ) (x : Module) → slice_get ms' i ≡ Some x → (y : Module) × (slice_get ms i ≡ Some y) × (y.lib ≡ x.lib) × (x.live ≡ true → y.live ≡ true)

pub under_put : (ms : List Module) (i : ℕ) (y z : Module) → slice_get ms i ≡ Some y → y.lib ≡ z.lib → (z.live ≡ true → y.live ≡ true) → Under ms (slice_set ms i z)
under_put ms i y z e l v = record { count = length-set ms i z; old = λ j x q. ⊎_elim (λ p. here j x p q) (λ p. (x, sym (slice_get-set_other ms i j z p) ∙ q, refl, λ h. h)) (cases_eq j i) }
  where
    here : (j : ℕ) (x : Module) → j ≡ i → slice_get (slice_set ms i z) j ≡ Some x → (y : Module) × (slice_get ms j ≡ Some y) × (y.lib ≡ x.lib) × (x.live ≡ true → y.live ≡ true)
    here j x p q = let r : z ≡ x = same_Some _ _ (sym (slice_get-set_same ms i z (slice_get_within ms i y e)) ∙ ap (slice_get (slice_set ms i z)) (sym p) ∙ q) in (y, ap (slice_get ms) p ∙ e, l ∙ ap (λ t. t.lib) r, λ h. v (ap (λ t. t.live) r ∙ h))

module _ (ms ms' : List Module) (w : Under ms ms') where
  live_under : (i : ℕ) (x : Module) → live_at ms' i ≡ Some x → (y : Module) × (live_at ms i ≡ Some y) × (y.lib ≡ x.lib)
  live_under i x e = let p = live_inv ms' i x e in let t = w.old i x p.0 in (t.0, live_from ms i t.0 t.1 (t.3 p.1), t.2)

  ground_under : (k : Layout) (u total : ℕ) → Ground k ms u total → Ground k ms' u total
  ground_under k u total g = record {
    placed = g.placed;
    apart = record {
      below = λ i x e. let t = live_under i x e in g.apart.below i t.0 t.1;
      apart = λ i j x y e f d. let t = live_under i x e in let v = live_under j y f in g.apart.apart i j t.0 v.0 t.1 v.1 d;
    };
    one = g.one;
    room = g.room;
    count = w.count ∙ g.count;
    sized = λ i x e. let t = w.old i x e in g.sized i t.0 t.1 ∙ ap (λ l. length l.cells) t.2;
    fine = λ i x e. let t = w.old i x e in rw t.2 at (g.fine i t.0 t.1);
  }

kept_under : (ls : List Library) (k : Layout) (ws : List ℕ) (i : ℕ) (x y : Module) (hs : List Held) → y.lib ≡ x.lib → Kept ls k ws i y hs → Kept ls k ws i x hs
kept_under ls k ws i x y hs e a = record { sized = a.sized; slots = λ j s o q. ap (λ l. slice_get l.cells j) (sym e) ∙ a.slots j s o q; cell = a.cell }

pub mem_under : (ls : List Library) (k : Layout) (ks : Links) (css : List (List Held)) (ws : List ℕ) (ms' : List Module) → Under ks.modules ms' → Mem ls k ks css ws → Mem ls k (with_modules ks ms') css ws
mem_under ls k ks css ws ms' w m = record {
  ground = ground_under ks.modules ms' w k ks.used (length ws) m.ground;
  held = m.held ∙ sym w.count;
  numbered = m.numbered;
  cells = λ i x hs e q. let t = live_under ks.modules ms' w i x e in kept_under ls k ws i x t.0 hs t.2 (m.cells i t.0 hs t.1 q);
}

under_all : (ms ns os : List Module) → Under ms ns → Under ns os → Under ms os
under_all ms ns os a b = record { count = b.count ∙ a.count; old = λ i x e. let t = b.old i x e in let v = a.old i t.0 t.1 in (v.0, v.1, v.2 ∙ t.2, λ h. v.3 (t.3 h)) }

under_self : (ms : List Module) → Under ms ms
under_self ms = record { count = refl; old = λ i x e. (x, e, refl, λ h. h) }

pub under_unload : (js : List ℕ) (ms : List Module) → Under ms (unload_all js ms)
under_unload [] ms = under_self ms
under_unload (j ∷ js) ms = under_all ms (opt (slice_get ms j) ms (λ x. slice_set ms j (unloaded x))) _ (go (slice_get ms j) refl) (under_unload js _)
  where
    go : (o : Option Module) → slice_get ms j ≡ o → Under ms (opt o ms (λ x. slice_set ms j (unloaded x)))
    go None e = under_self ms
    go (Some x) e = under_put ms j x (unloaded x) e refl (λ h. let z : ◌≡◌ {A = ℕ} 0 1 = cc in absurd (omega arith))
