-- A load in the memory: each new module has its image at its base, and what was there keeps its words.
use Rattle.std.proofs.lemmas.Option.{get_or_from_slice_get, slice_get_within}
use Rattle.std.specs.List.{AllByRecursion}
use Rattle.std.specs.Option.{option_map}
use Rattle.std.specs.Prelude.{None, Option, Some, slice_get}
use Rattle.std.proofs.Common.{◌≡◌, ℕ, ◌+◌, ◌%◌, ◌<◌, ◌≤◌, List, [], ◌∷◌, ◌++◌, map, length, get_or, sym, refl, ap, ◌∙◌, subst, subst₂, ⊎_elim, arith}
use Rattle.std.proofs.lemmas.List.{length-append, length-map, get_or-append-add}
use Rattle.base.specs.Choices.{opt}
use Rattle.base.specs.Names.{Name}
use Rattle.base.proofs.Lists.{slice_get_is, all_slice_get, slice_get_right}
use Rattle.library.specs.Library.{Symbol, Cell, number, ref, at, slot, named, instruction, Library, find_library, label_at, cells_before}
use Rattle.library.specs.Fine.{CellFine, LibraryFine}
use Rattle.library.proofs.Labels.{all_found, label_counted}
use Rattle.links.specs.Links.{Place, Module, Links, Room, cells_in}
use Rattle.links.specs.Scope.{live_at, scope, resolve}
use Rattle.links.specs.Load.{Loaded}
use Rattle.links.specs.Laws.{Rising, Comes, Loads}
use Rattle.links.proofs.Keys.{live_inv, live_from}
use Rattle.meaning.specs.State.{Value, Held, link, place_of, first_held, first_helds, new_cells}
use Rattle.processor.specs.Cpu
use Rattle.image.specs.Words.{first_word}
use Rattle.simulation.specs.Layout.{Layout, base_of, size_of, Ground, addr, addr_place, Fits}
use Rattle.simulation.specs.Relation.{Holds, Kept, Mem}
use Rattle.simulation.specs.Images.{settled_at, image, images, laid_all}
use Rattle.simulation.proofs.Wider.{Wider, kept_wider}
use Rattle.simulation.proofs.Grown.{grown, ground_all, wider_grown}
use Rattle.simulation.proofs.Found.{place_fits}
use Rattle.simulation.proofs.Images.{slice_get_front, starts_long, laid_all_length, laid_all_below, laid_all_at, slice_get_first, length_first, slice_get_words, slice_get_new, length_new, slice_get_images, images_long, slice_get_either, found_name}

module _ (ls : List Library) (fine : AllByRecursion LibraryFine ls) (k : Layout) (ks : Links) (css : List (List Held)) (ws : List ℕ) (mem : Mem ls k ks css ws) (m : Room) (q : Loaded) (l : Loads ls m ks q) (room : m.words ≤ length ws) where
  abbrev pub k' : Layout
  k' = grown k q.starts l.fresh

  abbrev pub ws' : List ℕ
  ws' = laid_all ws q.starts (images ls k' q.links q.new)

  comes_fine : (fresh : List Module) → AllByRecursion (Comes ls (length ks.groups)) fresh → AllByRecursion (λ y. LibraryFine y.lib) fresh
  comes_fine [] c = tt
  comes_fine (y ∷ fresh) c = (all_found LibraryFine ls c.0.name y.lib fine c.0.found, comes_fine fresh c.1)

  ground' : Ground k' q.links.modules q.links.used (length ws)
  ground' = subst (λ ms. Ground k' ms q.links.used (length ws)) (sym l.modules) (ground_all (length ws) l.fresh q.starts k ks.modules ks.used q.links.used mem.ground l.rising (omega (arith, l.fits)) (comes_fine l.fresh l.come))

  long : length ws' ≡ length ws
  long = laid_all_length ws q.starts (images ls k' q.links q.new)

  rising' : Rising ks.used q.starts (map length (images ls k' q.links q.new)) q.links.used
  rising' = subst (λ zs. Rising ks.used q.starts zs q.links.used) (sym (ap (λ is. map length (images ls k' q.links is)) l.new ∙ images_long ls k' q.links ks.modules l.fresh l.modules (length ks.modules) refl)) l.rising

  pub wider : Wider k k'
  wider = wider_grown k (length ws) q.starts l.fresh mem.ground.placed

  -- a module that was there
  old_kept : (i : ℕ) (x : Module) (hs : List Held) → live_at q.links.modules i ≡ Some x → slice_get css i ≡ Some hs → Kept ls k' ws' i x hs
  old_kept i x hs e s = kept_wider k k' wider ls ws ws' i x hs in_old (mem.cells i x hs live_old s) (λ j h. laid_all_below ws q.starts (images ls k' q.links q.new) ks.used q.links.used (base_of k i + j) rising' (omega (arith, mem.ground.apart.below i x live_old)))
    where
      short : i < length ks.modules
      short = omega (arith, slice_get_within css i hs s, mem.held)

      live_old : live_at ks.modules i ≡ Some x
      live_old = let p = live_inv (ks.modules ++ l.fresh) i x (ap (λ ms. live_at ms i) (sym l.modules) ∙ e) in live_from ks.modules i x (slice_get_front ks.modules l.fresh i x short p.0) p.1

      in_old : i < length k.bases
      in_old = omega (arith, short, mem.ground.count)

  -- a new module
  module _ (d : ℕ) (x : Module) (e : slice_get q.links.modules (length ks.modules + d) ≡ Some x) (h : d < length l.fresh) where
    abbrev me : ℕ
    me = length ks.modules + d

    come_x : (n : Name) × (find_library ls n ≡ Some x.lib)
    come_x = let c = all_slice_get (Comes ls (length ks.groups)) l.fresh d x l.come (sym (slice_get_right ks.modules l.fresh d) ∙ ap (λ ms. slice_get ms me) (sym l.modules) ∙ e) in (c.name, c.found)

    counted : (j : ℕ) (y : Name) → slice_get x.lib.cells j ≡ Some (named y) → label_at ls (cells_before ls x.lib.name + j) ≡ Some y
    counted j y g = let c = come_x in label_counted ls x.lib.name x.lib j y (ap (find_library ls) (found_name ls c.0 x.lib c.1) ∙ c.1) g

    base_is : (b : ℕ) → slice_get q.starts d ≡ Some b → base_of k' me ≡ b
    base_is b g = ap (λ n. get_or (k.bases ++ q.starts) (n + d) 0) mem.ground.count ∙ get_or-append-add k.bases q.starts d 0 ∙ get_or_from_slice_get q.starts d b 0 g

    in_k : me < length k'.bases
    in_k = omega (arith, slice_get_within q.links.modules me x e, ground'.count)

    abbrev word_of : ℕ → Cell → ℕ
    word_of j c = first_word (settled_at k' q.links me c) (base_of k' me) (cells_before ls x.lib.name + j) j c

    ref_word : (o : Option Place) (n : ℕ) → Fits k' (place_of o n) → opt (option_map (addr_place k') o) 0 (λ a. (a + n) % Cpu.all) ≡ addr k' (place_of o n)
    ref_word None n f = refl
    ref_word (Some p) n f = omega (arith, ground'.placed.last p.host f.0, ground'.placed.few, f.1)

    first_holds : (j : ℕ) (c : Cell) → slice_get x.lib.cells j ≡ Some c → CellFine (length x.lib.cells) c → Holds ls k' (size_of k' me) j (first_held q.links me c) (word_of j c)
    first_holds j (number n) g f = (refl, omega arith)
    first_holds j (ref y n must) g f = let p = place_fits k' q.links.modules q.links.used (length ws) ground' me n y (scope q.links me) f in (ref_word (resolve q.links me y) n p, p)
    first_holds j (at a) g f = (omega (arith, ground'.placed.last me in_k, ground'.placed.few, ground'.sized me x e), (in_k, omega (arith, ground'.placed.last me in_k, ground'.placed.few, ground'.sized me x e)))
    first_holds j (slot y) g f = refl
    first_holds j (named y) g f = counted j y g
    first_holds j (instruction o) g f = (refl, f.0, rw (ground'.sized me x e) f.1)

    slot_only : (y : Symbol) (o : Option Value) (c : Cell) → first_held q.links me c ≡ link y o → c ≡ slot y
    slot_only y o (number n) g = let z : ◌≡◌ {A = ℕ} 0 1 = cc in absurd (omega arith)
    slot_only y o (ref s n must) g = let z : ◌≡◌ {A = ℕ} 0 1 = cc in absurd (omega arith)
    slot_only y o (at a) g = let z : ◌≡◌ {A = ℕ} 0 1 = cc in absurd (omega arith)
    slot_only y o (slot s) g = let z : s ≡ y = cc in ap slot z
    slot_only y o (named s) g = let z : ◌≡◌ {A = ℕ} 0 1 = cc in absurd (omega arith)
    slot_only y o (instruction s) g = let z : ◌≡◌ {A = ℕ} 0 1 = cc in absurd (omega arith)

    new_kept : Kept ls k' ws' me x (first_helds q.links me x.lib.cells)
    new_kept = record {
      sized = length_first q.links me x.lib.cells ∙ sym (ground'.sized me x e);
      slots = λ j y o g. let t = slice_get_first q.links me x.lib.cells j (link y o) g in t.1 ∙ ap Some (slot_only y o t.0 t.2);
      cell = λ j g p. at_cell j g (slice_get_first q.links me x.lib.cells j g p);
    }
      where
        fine_x : LibraryFine x.lib
        fine_x = ground'.fine me x e

        start : (b : ℕ) × (slice_get q.starts d ≡ Some b)
        start = slice_get_is q.starts d (omega (arith, h, starts_long ks.used q.starts (map cells_in l.fresh) q.links.used l.rising, length-map l.fresh cells_in))

        image_d : slice_get (images ls k' q.links q.new) d ≡ Some (image ls k' q.links me x)
        image_d = ap (λ is. slice_get (images ls k' q.links is) d) l.new ∙ slice_get_images ls k' q.links (length ks.modules) (length l.fresh) d x h e

        at_cell : (j : ℕ) (g : Held) → (c : Cell) × (slice_get x.lib.cells j ≡ Some c) × (first_held q.links me c ≡ g) → (w : ℕ) × (slice_get ws' (base_of k' me + j) ≡ Some w) × Holds ls k' (size_of k' me) j g w
        at_cell j g t = (word_of j t.0, ap (λ b. slice_get ws' (b + j)) (base_is start.0 start.1) ∙ laid_all_at ws q.starts (images ls k' q.links q.new) ks.used q.links.used d start.0 (image ls k' q.links me x) j _ rising' (omega (arith, l.fits, room)) start.1 image_d word_j, subst (λ y. Holds ls k' (size_of k' me) j y (word_of j t.0)) t.2 (first_holds j t.0 t.1 (all_slice_get (CellFine (length x.lib.cells)) x.lib.cells j t.0 fine_x.cells t.1)))
          where
            word_j : slice_get (image ls k' q.links me x) j ≡ Some (word_of j t.0)
            word_j = let z : 0 + j ≡ j = omega arith in slice_get_words (settled_at k' q.links me) (base_of k' me) (cells_before ls x.lib.name) 0 x.lib.cells j t.0 t.1 ∙ (λ i. Some (first_word (settled_at k' q.links me t.0) (base_of k' me) (cells_before ls x.lib.name + z i) (z i) t.0))

  pub mem_loaded : Mem ls k' q.links (css ++ new_cells q.links q.new) ws'
  mem_loaded = record {
    ground = rw long ground';
    held = count;
    numbered = omega (arith, mem.numbered, l.groups, l.taken);
    cells = λ i x hs e s. ⊎_elim (λ p. old_kept i x hs e p) (λ p. new_one i x hs e p.0 p.1 p.2) (slice_get_either css (new_cells q.links q.new) i hs s);
  }
    where
      new_count : length (new_cells q.links q.new) ≡ length l.fresh
      new_count = ap (λ is. length (new_cells q.links is)) l.new ∙ length_new q.links (length ks.modules) (length l.fresh)

      count : length (css ++ new_cells q.links q.new) ≡ length q.links.modules
      count = length-append css (new_cells q.links q.new) ∙ (λ i. mem.held i + new_count i) ∙ sym (ap length l.modules ∙ length-append ks.modules l.fresh)

      new_one : (i : ℕ) (x : Module) (hs : List Held) → live_at q.links.modules i ≡ Some x → (d : ℕ) → i ≡ length css + d → slice_get (new_cells q.links q.new) d ≡ Some hs → Kept ls k' ws' i x hs
      new_one i x hs e d p s = subst₂ (λ a g. Kept ls k' ws' a x g) (sym at_i) (sym hs_is) (new_kept d x at_x (omega (arith, slice_get_within (new_cells q.links q.new) d hs s, new_count)))
        where
          at_i : i ≡ length ks.modules + d
          at_i = p ∙ ap (λ n. n + d) mem.held

          at_x : slice_get q.links.modules (length ks.modules + d) ≡ Some x
          at_x = ap (slice_get q.links.modules) (sym at_i) ∙ (live_inv q.links.modules i x e).0

          hs_is : hs ≡ first_helds q.links (length ks.modules + d) x.lib.cells
          hs_is = slice_get_new q.links (length ks.modules) (length l.fresh) d hs (ap (λ is. slice_get (new_cells q.links is) d) (sym l.new) ∙ s) ∙ rw at_x
