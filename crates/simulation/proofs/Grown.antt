-- Modules that come behind the others, in order.
use Rattle.std.proofs.lemmas.Option.{slice_get_within}
use Rattle.std.specs.List.{AllByRecursion}
use Rattle.std.specs.Prelude.{Some}
use Rattle.std.proofs.Common.{◌≡◌, ℕ, suc, ◌+◌, ◌<◌, ◌≤◌, ◌⊎◌, List, [], ◌∷◌, ◌++◌, map, length, sym, refl, ap, ◌∙◌, subst, inl, inr, ⊎_elim, append_assoc, append-nil, arith}
use Rattle.std.proofs.lemmas.Bool.{cases_lt}
use Rattle.std.proofs.lemmas.List.{get_or_append_left, get_or_push, length_push, length-append}
use Rattle.base.proofs.Lists.{slice_get_push}
use Rattle.library.specs.Fine.{LibraryFine}
use Rattle.links.specs.Links.{Module, cells_in}
use Rattle.links.specs.Scope.{live_at}
use Rattle.links.specs.Laws.{Rising}
use Rattle.links.proofs.Keys.{live_inv, live_from}
use Rattle.simulation.specs.Layout.{Layout, base_of, size_of, Placed, Ground}
use Rattle.simulation.proofs.Wider.{Wider}

pub rising_grows : (u : ℕ) (bs zs : List ℕ) (e : ℕ) → Rising u bs zs e → u ≤ e
rising_grows u [] [] e r = r
rising_grows u [] (z ∷ zs) e r = absurd r
rising_grows u (b ∷ bs) [] e r = absurd r
rising_grows u (b ∷ bs) (z ∷ zs) e r = omega (arith, r.0, rising_grows (suc (b + z)) bs zs e r.1)

abbrev more : Layout → ℕ → ℕ → Layout
more k b z = record { bases = k.bases ++ (b ∷ []); sizes = k.sizes ++ (z ∷ []) }

module _ (k : Layout) (ms : List Module) (u total b : ℕ) (y : Module) (g : Ground k ms u total) (fine : LibraryFine y.lib) (h₁ : u ≤ b) (h₂ : b + cells_in y < total) where
  base_old : (i : ℕ) → i < length k.bases → base_of (more k b (cells_in y)) i ≡ base_of k i
  base_old i h = get_or_append_left k.bases (b ∷ []) 0 i h

  size_old : (i : ℕ) → i < length k.bases → size_of (more k b (cells_in y)) i ≡ size_of k i
  size_old i h = get_or_append_left k.sizes (cells_in y ∷ []) 0 i (omega (arith, g.placed.even))

  base_new : base_of (more k b (cells_in y)) (length k.bases) ≡ b
  base_new = get_or_push k.bases b 0 (length k.bases) refl

  size_new : size_of (more k b (cells_in y)) (length k.bases) ≡ cells_in y
  size_new = get_or_push k.sizes (cells_in y) 0 (length k.bases) g.placed.even

  is_last : (i : ℕ) → i < length (k.bases ++ (b ∷ [])) → length k.bases ≤ i → i ≡ length k.bases
  is_last i h l = omega (arith, length_push k.bases b)

  placed_more : Placed (more k b (cells_in y)) total
  placed_more = record {
    first = λ i h. ⊎_elim (λ l. omega (arith, base_old i l, g.placed.first i l)) (λ l. rw (is_last i h l) (omega (arith, base_new, g.one))) (cases_lt i (length k.bases));
    last = λ i h. ⊎_elim (λ l. omega (arith, base_old i l, size_old i l, g.placed.last i l)) (λ l. rw (is_last i h l) (omega (arith, base_new, size_new))) (cases_lt i (length k.bases));
    few = g.placed.few;
    even = length_push k.sizes (cells_in y) ∙ rw g.placed.even (sym (length_push k.bases b));
  }

  -- a live module is an old one or the new one
  old_or_new : (i : ℕ) (x : Module) → live_at (ms ++ (y ∷ [])) i ≡ Some x → ((live_at ms i ≡ Some x) × (i < length k.bases)) ⊎ (i ≡ length k.bases)
  old_or_new i x e = let p = live_inv (ms ++ (y ∷ [])) i x e in ⊎_elim (λ q. inl (live_from ms i x q p.1, omega (arith, slice_get_within ms i x q, g.count))) (λ q. inr (q.0 ∙ g.count)) (slice_get_push ms y i x p.0)

  ground_more : Ground (more k b (cells_in y)) (ms ++ (y ∷ [])) (suc (b + cells_in y)) total
  ground_more = record {
    placed = placed_more;
    apart = record { below = below; apart = apart' };
    one = omega arith;
    room = omega (arith, h₂);
    count = length_push ms y ∙ rw g.count (sym (length_push k.bases b));
    sized = λ i x e. ⊎_elim (λ q. size_old i (omega (arith, slice_get_within ms i x q, g.count)) ∙ g.sized i x q) (λ q. rw (q.0 ∙ g.count) (size_new ∙ ap cells_in q.1)) (slice_get_push ms y i x e);
    fine = λ i x e. ⊎_elim (λ q. g.fine i x q) (λ q. subst (λ (z : Module). LibraryFine z.lib) q.1 fine) (slice_get_push ms y i x e);
  }
    where
      below : (i : ℕ) (x : Module) → live_at (ms ++ (y ∷ [])) i ≡ Some x → base_of (more k b (cells_in y)) i + size_of (more k b (cells_in y)) i < suc (b + cells_in y)
      below i x e = ⊎_elim (λ q. omega (arith, base_old i q.1, size_old i q.1, g.apart.below i x q.0, h₁)) (λ q. rw q (omega (arith, base_new, size_new))) (old_or_new i x e)

      apart' : (i j : ℕ) (x z : Module) → live_at (ms ++ (y ∷ [])) i ≡ Some x → live_at (ms ++ (y ∷ [])) j ≡ Some z → (i ≡ j → ⊥) → (base_of (more k b (cells_in y)) i + size_of (more k b (cells_in y)) i < base_of (more k b (cells_in y)) j) ⊎ (base_of (more k b (cells_in y)) j + size_of (more k b (cells_in y)) j < base_of (more k b (cells_in y)) i)
      apart' i j x z e f d = ⊎_elim (λ p. ⊎_elim (λ q. both p q) (λ q. inl (rw q (omega (arith, base_new, base_old i p.1, size_old i p.1, g.apart.below i x p.0, h₁)))) (old_or_new j z f)) (λ p. ⊎_elim (λ q. inr (rw p (omega (arith, base_new, base_old j q.1, size_old j q.1, g.apart.below j z q.0, h₁)))) (λ q. absurd (d (p ∙ sym q))) (old_or_new j z f)) (old_or_new i x e)
        where
          both : (live_at ms i ≡ Some x) × (i < length k.bases) → (live_at ms j ≡ Some z) × (j < length k.bases) → (base_of (more k b (cells_in y)) i + size_of (more k b (cells_in y)) i < base_of (more k b (cells_in y)) j) ⊎ (base_of (more k b (cells_in y)) j + size_of (more k b (cells_in y)) j < base_of (more k b (cells_in y)) i)
          both p q = ⊎_elim (λ l. inl (omega (arith, base_old i p.1, size_old i p.1, base_old j q.1))) (λ l. inr (omega (arith, base_old j q.1, size_old j q.1, base_old i p.1))) (g.apart.apart i j x z p.0 q.0 d)

ground_taken : (k : Layout) (ms : List Module) (u e total : ℕ) → Ground k ms u total → u ≤ e → e ≤ total → Ground k ms e total
ground_taken k ms u e total g h l = record {
  placed = g.placed;
  apart = record { below = λ i x q. omega (arith, g.apart.below i x q, h); apart = g.apart.apart };
  one = omega (arith, g.one);
  room = l;
  count = g.count;
  sized = g.sized;
  fine = g.fine;
}

abbrev pub grown : Layout → List ℕ → List Module → Layout
grown k bs fresh = record { bases = k.bases ++ bs; sizes = k.sizes ++ map cells_in fresh }

pub ground_all : (total : ℕ) (fresh : List Module) (bs : List ℕ) (k : Layout) (ms : List Module) (u e : ℕ) → Ground k ms u total → Rising u bs (map cells_in fresh) e → e ≤ total → AllByRecursion (λ y. LibraryFine y.lib) fresh → Ground (grown k bs fresh) (ms ++ fresh) e total
ground_all total [] [] k ms u e g r h f = rw (append-nil k.bases, append-nil k.sizes, append-nil ms) (ground_taken k ms u e total g r h)
ground_all total [] (b ∷ bs) k ms u e g r h f = absurd r
ground_all total (y ∷ fresh) [] k ms u e g r h f = absurd r
ground_all total (y ∷ fresh) (b ∷ bs) k ms u e g r h f = subst (λ x. x) shape (ground_all total fresh bs (more k b (cells_in y)) (ms ++ (y ∷ [])) (suc (b + cells_in y)) e (ground_more k ms u total b y g f.0 r.0 (omega (arith, h, rising_grows (suc (b + cells_in y)) bs (map cells_in fresh) e r.1))) r.1 h f.1)
  where
    shape : Ground (record { bases = (k.bases ++ (b ∷ [])) ++ bs; sizes = (k.sizes ++ (cells_in y ∷ [])) ++ map cells_in fresh }) ((ms ++ (y ∷ [])) ++ fresh) e total ≡ Ground (record { bases = k.bases ++ (b ∷ bs); sizes = k.sizes ++ (cells_in y ∷ map cells_in fresh) }) (ms ++ (y ∷ fresh)) e total
    shape = λ i. Ground (record { bases = append_assoc k.bases (b ∷ []) bs i; sizes = append_assoc k.sizes (cells_in y ∷ []) (map cells_in fresh) i }) (append_assoc ms (y ∷ []) fresh i) e total

pub wider_grown : (k : Layout) (total : ℕ) (bs : List ℕ) (fresh : List Module) → Placed k total → Wider k (grown k bs fresh)
wider_grown k total bs fresh p = record {
  more = omega (arith, length-append k.bases bs);
  base = λ i h. get_or_append_left k.bases bs 0 i h;
  size = λ i h. get_or_append_left k.sizes (map cells_in fresh) 0 i (omega (arith, p.even));
}
