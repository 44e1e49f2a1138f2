-- A layout with more modules: what was there keeps its addresses.
use Rattle.std.proofs.lemmas.Option.{slice_get_within}
use Rattle.std.specs.List.{AllByRecursion}
use Rattle.std.specs.Prelude.{None, Some, slice_get}
use Rattle.std.proofs.Common.{◌≡◌, ℕ, ◌+◌, ◌<◌, ◌≤◌, List, [], ◌∷◌, ◌++◌, length, sym, refl, ap, ◌∙◌, arith}
use Rattle.base.proofs.Lists.{map_alike}
use Rattle.library.specs.Library.{Library}
use Rattle.links.specs.Links.{Place, Module}
use Rattle.meaning.specs.State.{Value, num, place, Held, val, link, label, code, Sequel, gives, drops, ends, stops, Frame, back, pending}
use Rattle.simulation.specs.Layout.{Layout, base_of, size_of, addr, addr_back, Fits, FitsPlace, FitsSequel, FitsFrame}
use Rattle.simulation.specs.Relation.{Holds, Kept, Values, At, Backs}
use Rattle.simulation.specs.Rows.{resume, discard, row, resumes, pendings}

pub record Wider (k k' : Layout) : Type 0 where
  pub more : length k.bases ≤ length k'.bases
  pub base : (i : ℕ) → i < length k.bases → base_of k' i ≡ base_of k i
  pub size : (i : ℕ) → i < length k.bases → size_of k' i ≡ size_of k i

module _ (k k' : Layout) (w : Wider k k') where
  fits_place_wider : (p : Place) → FitsPlace k p → FitsPlace k' p
  fits_place_wider p f = (omega (arith, w.more, f.0), f.1)

  fits_wider : (v : Value) → Fits k v → Fits k' v
  fits_wider (num n) f = f
  fits_wider (place i j) f = (omega (arith, w.more, f.0), f.1)

  addr_wider : (v : Value) → Fits k v → addr k' v ≡ addr k v
  addr_wider (num n) f = refl
  addr_wider (place i j) f = rw (w.base i f.0)

  all_place_wider : (ps : List Place) → AllByRecursion (FitsPlace k) ps → AllByRecursion (FitsPlace k') ps
  all_place_wider [] f = tt
  all_place_wider (p ∷ ps) f = (fits_place_wider p f.0, all_place_wider ps f.1)

  fits_sequel_wider : (x : Sequel) → FitsSequel k x → FitsSequel k' x
  fits_sequel_wider (gives r v p) f = (f.0, fits_wider v f.1, fits_place_wider p f.2)
  fits_sequel_wider (drops js r p) f = (f.0, fits_place_wider p f.1)
  fits_sequel_wider (ends n) f = f
  fits_sequel_wider (stops n) f = f

  fits_frame_wider : (x : Frame) → FitsFrame k x → FitsFrame k' x
  fits_frame_wider (back p) f = fits_place_wider p f
  fits_frame_wider (pending ps x) f = (all_place_wider ps f.0, fits_sequel_wider x f.1)

  addr_back_wider : (x : Frame) → FitsFrame k x → addr_back k' x ≡ addr_back k x
  addr_back_wider (back p) f = rw (w.base p.host f.0)
  addr_back_wider (pending ps x) f = refl

  pub values_wider : (vs : List Value) (ns : List ℕ) → Values k vs ns → Values k' vs ns
  values_wider vs ns x = let r = map_alike (addr k') (addr k) (Fits k) (Fits k') addr_wider fits_wider vs x.fit in record { are = x.are ∙ sym r.0; fit = r.1 }

  pub at_wider : (p : Place) (n : ℕ) → At k p n → At k' p n
  at_wider p n x = record { is = x.is ∙ sym (addr_wider (place p.host p.cell) x.fit); fit = fits_place_wider p x.fit }

  pub backs_wider : (fs : List Frame) (ns : List ℕ) → Backs k fs ns → Backs k' fs ns
  backs_wider fs ns x = let r = map_alike (addr_back k') (addr_back k) (FitsFrame k) (FitsFrame k') addr_back_wider fits_frame_wider fs x.fit in record {
    rest = x.rest;
    are = x.are ∙ ap (λ z. z ++ x.rest) (sym r.0);
    fit = r.1;
  }

  holds_wider : (ls : List Library) (z j : ℕ) (h : Held) (a : ℕ) → Holds ls k z j h a → Holds ls k' z j h a
  holds_wider ls z j (val v) a x = (x.0 ∙ sym (addr_wider v x.1), fits_wider v x.1)
  holds_wider ls z j (link y None) a x = x
  holds_wider ls z j (link y (Some v)) a x = (x.0 ∙ sym (addr_wider v x.1), fits_wider v x.1)
  holds_wider ls z j (label y) a x = x
  holds_wider ls z j (code o) a x = x

  -- the words of what was placed are unchanged
  pub kept_wider : (ls : List Library) (ws ws' : List ℕ) (i : ℕ) (x : Module) (hs : List Held) → i < length k.bases → Kept ls k ws i x hs → ((j : ℕ) → j < size_of k i → slice_get ws' (base_of k i + j) ≡ slice_get ws (base_of k i + j)) → Kept ls k' ws' i x hs
  kept_wider ls ws ws' i x hs h kx e = record {
    sized = kx.sized ∙ sym (w.size i h);
    slots = kx.slots;
    cell = λ j g q. let t = kx.cell j g q in let l = slice_get_within hs j g q in (t.0, rw (w.base i h) (e j (omega (arith, kx.sized)) ∙ t.1), rw (w.size i h) (holds_wider ls (size_of k i) j g t.0 t.2));
  }

  -- pending calls keep their addresses
  resumes_wider : (f : Sequel) → FitsSequel k f → resumes k' f ≡ resumes k f
  resumes_wider (gives r v p) f = λ i. resume r (addr_wider v f.1 i) (addr_wider (place p.host p.cell) f.2 i)
  resumes_wider (drops js r p) f = λ i. discard js r (addr_wider (place p.host p.cell) f.1 i)
  resumes_wider (ends n) f = refl
  resumes_wider (stops n) f = refl

  pub pendings_wider : (fs : List Frame) → AllByRecursion (FitsFrame k) fs → pendings k' fs ≡ pendings k fs
  pendings_wider [] f = refl
  pendings_wider (back p ∷ fs) f = pendings_wider fs f.1
  pendings_wider (pending ps q ∷ fs) f = λ i. row ps (resumes_wider q f.0.1 i) ∷ pendings_wider fs f.1 i
