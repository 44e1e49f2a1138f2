-- What no program changes, and what doesn't come back.
use Rattle.std.proofs.lemmas.Option.{same_Some}
use Rattle.std.specs.Prelude.{None, Some, filter, slice_get, slice_set}
use Rattle.std.proofs.Common.{◌≡◌, ℕ, ◌+◌, ◌<◌, ◌≤◌, Bool, true, false, List, ◌++◌, length, sym, refl, ap, ◌∙◌, ⊎_elim, arith}
use Rattle.base.specs.Choices.{on_some}
use Rattle.base.specs.Names.{Name}
use Rattle.base.specs.Lists.{has}
use Rattle.base.proofs.Choices.{on_some_inv}
use Rattle.base.proofs.Lists.{slice_get_left}
use Rattle.library.specs.Library.{Library}
use Rattle.links.specs.Links.{Place, Links, Room}
use Rattle.links.specs.Load.{Loaded, load}
use Rattle.links.specs.Close.{leaving, unload_all, unload, slot_bound}
use Rattle.links.specs.Laws.{Loads}
use Rattle.links.specs.Whole.{Live}
use Rattle.links.proofs.Keys.{live_inv, live_from}
use Rattle.links.proofs.Lives.{live_is, is_live, LiveKeys, unload_inv}
use Rattle.links.proofs.Loading.{load_appends}
use Rattle.links.proofs.Whole.{slice_get_split, slot_keys}
use Rattle.meaning.specs.State.{place, Held, val, link, State, Next, new_cells}
use Rattle.meaning.specs.Steps.{put_cell}
use Rattle.meaning.specs.Always.{state_of, lasts, cell_of, CellsLast, GoneStays}
use Rattle.meaning.proofs.Changes.{Change, no_meaning, is_lost, has_ended, runs, writes, shows, opens_group, binds_slot, begins_close, does_close, after_by}
use Rattle.meaning.proofs.Parts.{part_at, helds, part_other, held_part}
use Rattle.meaning.proofs.Always.{unload_length, slot_length}
use Rattle.std.proofs.lemmas.List.{length-append}

-- a cell is put where something stood that doesn't last
put_lasts : (css : List (List Held)) (a b : ℕ) (old v : Held) (i c : ℕ) (h : Held) → part_at helds css a b ≡ Some old → lasts old ≡ false → lasts h ≡ true → part_at helds css i c ≡ Some h → part_at helds (put_cell css a b v) i c ≡ Some h
put_lasts css a b old v i c h o f l e = part_other helds (λ hs. slice_set hs b v) b v (λ hs. refl) css a i c apart ∙ e
  where
    apart : i ≡ a → c ≡ b → ⊥
    apart p q = let s : old ≡ h = same_Some _ _ (sym o ∙ (λ t. part_at helds css (sym p t) (sym q t)) ∙ e) in let t : lasts old ≡ true = ap lasts s ∙ l in let z : ◌≡◌ {A = ℕ} 0 1 = cc in omega arith

append_lasts : (css ns : List (List Held)) (i c : ℕ) (h : Held) → part_at helds css i c ≡ Some h → part_at helds (css ++ ns) i c ≡ Some h
append_lasts css ns i c h e = let t = on_some_inv (slice_get css i) (λ hs. slice_get hs c) h e in ap (λ o. on_some o (λ hs. slice_get hs c)) (slice_get_left css ns i t.0 t.1) ∙ t.2

change_lasts : (ls : List Library) (m : Room) (s : State) (n : Next) → Change ls m s n → (i c : ℕ) (h : Held) → lasts h ≡ true → cell_of s i c ≡ Some h → cell_of (state_of n) i c ≡ Some h
change_lasts ls m s n no_meaning i c h l e = e
change_lasts ls m s n is_lost i c h l e = e
change_lasts ls m s n (has_ended v) i c h l e = e
change_lasts ls m s n (runs d f) i c h l e = e
change_lasts ls m s n (writes d a b old v q f) i c h l e = put_lasts s.cells a b (val old) (val v) i c h (held_part s a b (val old) q) refl l e
change_lasts ls m s n (shows d is o f) i c h l e = e
change_lasts ls m s n (opens_group d x g y r v p q f) i c h l e = append_lasts s.cells (new_cells y.links y.new) i c h e
change_lasts ls m s n (binds_slot d b y p q o f g) i c h l e = put_lasts s.cells s.core.here.host b (link y None) (link y (Some (place p.host p.cell))) i c h (held_part s s.core.here.host b (link y None) o) refl l e
change_lasts ls m s n (begins_close d a r p q f) i c h l e = e
change_lasts ls m s n (does_close d js r p fs f g) i c h l e = e

pub cells_last : CellsLast
cells_last ls m s n k i c h q l e = after_by ls m (λ a b. (i c : ℕ) (h : Held) → lasts h ≡ true → cell_of a i c ≡ Some h → cell_of b i c ≡ Some h) (λ a i c h l e. e) (λ a b d p r i c h l e. r i c h l (p i c h l e)) (change_lasts ls m) s n k q i c h l e

-- modules become no fewer, and none of those that were there comes back
abbrev Older : Links → Links → Type 0
Older k q = (length k.modules ≤ length q.modules) × ((i : ℕ) → i < length k.modules → Live q.modules i → Live k.modules i)

older_self : (k : Links) → Older k k
older_self k = (omega arith, λ i h l. l)

older_on : (a b c : Links) → Older a b → Older b c → Older a c
older_on a b c p q = (omega (arith, p.0, q.0), λ i h l. p.1 i h (q.1 i (omega (arith, p.0)) l))

load_older : (ls : List Library) (m : Room) (x : Name) (global : Bool) (k : Links) (l : Loaded) → load ls m x global k ≡ Some l → Older k l.links
load_older ls m x global k l e = (omega (arith, ap length a.modules, length-append k.modules a.fresh), old)
  where
    a : Loads ls m k l
    a = load_appends ls m x global k l e

    old : (i : ℕ) → i < length k.modules → Live l.links.modules i → Live k.modules i
    old i h v = let t = live_is l.links.modules i v in let s = live_inv l.links.modules i t.0 t.1 in ⊎_elim (λ n. is_live k.modules i t.0 (live_from k.modules i t.0 n s.1)) (λ n. absurd (past n.0 n.1)) (slice_get_split k.modules a.fresh i t.0 (ap (λ ms. slice_get ms i) (sym a.modules) ∙ s.0))
      where
        past : (d : ℕ) → i ≡ length k.modules + d → ⊥
        past d p = omega arith

unload_older : (k : Links) (js : List ℕ) → Older k (unload js k)
unload_older k js = (omega (arith, unload_length ds k.modules), λ i h v. let t = live_is (unload_all ds k.modules) i v in is_live k.modules i t.0 (unload_inv ds k.modules i t.0 t.1).0)
  where
    ds : List ℕ
    ds = filter (λ j. has j (leaving k)) js

slot_older : (k : Links) (me j : ℕ) (p : Place) → Older k (slot_bound k me j p)
slot_older k me j p = (omega (arith, slot_length k me j p), λ i h v. LiveKeys (slot_bound k me j p).modules k.modules (slot_keys k me j p) i v)

change_older : (ls : List Library) (m : Room) (s : State) (n : Next) → Change ls m s n → Older s.links (state_of n).links
change_older ls m s n no_meaning = older_self s.links
change_older ls m s n is_lost = older_self s.links
change_older ls m s n (has_ended v) = older_self s.links
change_older ls m s n (runs d f) = older_self s.links
change_older ls m s n (writes d a b old v q f) = older_self s.links
change_older ls m s n (shows d is o f) = older_self s.links
change_older ls m s n (opens_group d x g l r v p q f) = load_older ls m x g s.links l q
change_older ls m s n (binds_slot d b y p q o f g) = slot_older s.links s.core.here.host b p
change_older ls m s n (begins_close d a r p q f) = older_self s.links
change_older ls m s n (does_close d js r p fs f g) = unload_older s.links js

pub gone_stays : GoneStays
gone_stays ls m s n k i h l v = (after_by ls m (λ a b. Older a.links b.links) (λ a. older_self a.links) (λ a b c p q. older_on a.links b.links c.links p q) (change_older ls m) s n k h).1 i l v
