-- A program that is loaded stands at its first calls.
use Rattle.std.proofs.ByRecursion.{All-append}
use Rattle.std.specs.List.{AllByRecursion}
use Rattle.std.specs.Prelude.{Some, slice_get}
use Rattle.std.proofs.Common.{◌≡◌, ℕ, zero, suc, ◌<◌, ◌≤◌, true, List, [], ◌∷◌, ◌++◌, map, length, replicate, sym, refl, ap, subst, arith}
use Rattle.library.specs.Library.{Library, any_version, main_name}
use Rattle.library.specs.Fine.{LibraryFine}
use Rattle.library.proofs.Reading.{reads_fine}
use Rattle.links.specs.Links.{place_at, Module}
use Rattle.links.specs.Scope.{live_at}
use Rattle.links.specs.Laws.{Loads}
use Rattle.links.proofs.Keys.{find_def_in}
use Rattle.links.proofs.Loading.{load_appends}
use Rattle.meaning.specs.State as state
use Rattle.meaning.specs.State.{num, ends, State}
use Rattle.meaning.specs.Runs as runs
use Rattle.simulation.specs.Handlers.{nothing_loaded, Begins}
use Rattle.simulation.specs.Layout.{Layout, addr, Fits, FitsPlace}
use Rattle.simulation.specs.Relation.{Mem}
use Rattle.simulation.specs.Says.{RoomOf}
use Rattle.simulation.specs.Images.{images, laid_all}
use Rattle.simulation.proofs.Found.{calls_fit}
use Rattle.simulation.proofs.Grown.{grown}
use Rattle.simulation.proofs.Loading.{mem_loaded}
use Rattle.simulation.proofs.Rests.{nowhere_step}

-- nothing is loaded, and nothing is wrong with that
mem_none : (ls : List Library) (ws ins : List ℕ) → 1 ≤ length ws → length ws < 4294967296 → Mem ls nothing_loaded.layout (runs.blank ins).links [] ws
mem_none ls ws ins h f = record {
  ground = record {
    placed = record { first = λ i q. absurd (omega arith); last = λ i q. absurd (omega arith); few = f; even = refl };
    apart = record { below = λ i x q. absurd (gone_none i x q); apart = λ i j x y q r d. absurd (gone_none i x q) };
    one = omega arith;
    room = h;
    count = refl;
    sized = λ i x q. absurd (none_some i x q);
    fine = λ i x q. absurd (none_some i x q);
  };
  held = refl;
  numbered = omega arith;
  cells = λ i x hs q r. absurd (gone_none i x q);
}
  where
    none_some : (i : ℕ) (x : Module) → slice_get [] i ≡ Some x → ⊥
    none_some i x q = let z : ◌≡◌ {A = ℕ} 0 1 = cc in omega arith

    gone_none : (i : ℕ) (x : Module) → live_at [] i ≡ Some x → ⊥
    gone_none i x q = let z : ◌≡◌ {A = ℕ} 0 1 = cc in omega arith

map_same : {A B : Type 0} (f : A → B) (n : ℕ) (x : A) → replicate n (f x) ≡ map f (replicate n x)
map_same f zero x = refl
map_same f (suc n) x = ap (λ z. f x ∷ z) (map_same f n x)

all_same : {A : Type 0} (P : A → Type 0) (n : ℕ) (x : A) → P x → AllByRecursion P (replicate n x)
all_same P zero x p = tt
all_same P (suc n) x p = (p, all_same P n x p)

pub begin : Begins
begin t ws gap ins l ls m q er few em el = (
  s,
  (er, es),
  (
    kq,
    refl,
    record {
      n = 0;
      z = s;
      ps = q.calls ++ (place_at 0 m ∷ []);
      f = ends 0;
      fs = [];
      made = omega arith;
      there = refl;
      next = nowhere_step (l ∷ ls) (RoomOf (length ws) gap) s refl;
      frames = refl;
      fits = (All-append (FitsPlace kq) q.calls (place_at 0 m ∷ []) fit_calls (main_fits, tt), omega arith);
      matches = record { links = refl; rows = refl };
      idle = record {
        mem = mem';
        regs = record { are = map_same (addr kq) 8 (num 0); fit = all_same (Fits kq) 8 (num 0) (omega arith) };
        backs = record { rest = []; are = refl; fit = tt };
        pushed = record { are = refl; fit = tt };
        ins = refl;
        outs = refl;
      };
    },
  ),
)
  where
    s : State
    s = runs.started (state.loaded (runs.blank ins) q) (q.calls ++ (place_at 0 m ∷ []))

    es : runs.begins (l ∷ ls) (RoomOf (length ws) gap) ins ≡ Some s
    es = rw (em, el)

    fine : AllByRecursion LibraryFine (l ∷ ls)
    fine = reads_fine t (l ∷ ls) er

    lo : Loads (l ∷ ls) (RoomOf (length ws) gap) (runs.blank ins).links q
    lo = load_appends (l ∷ ls) (RoomOf (length ws) gap) l.name true (runs.blank ins).links q el

    kq : Layout
    kq = grown nothing_loaded.layout q.starts lo.fresh

    mem' : Mem (l ∷ ls) kq q.links ([] ++ state.new_cells q.links q.new) (laid_all ws q.starts (images (l ∷ ls) kq q.links q.new))
    mem' = mem_loaded (l ∷ ls) fine nothing_loaded.layout (runs.blank ins).links [] ws (mem_none (l ∷ ls) ws ins (omega (arith, lo.fits, lo.taken)) few) (RoomOf (length ws) gap) q lo (omega arith)

    fit_calls : AllByRecursion (FitsPlace kq) q.calls
    fit_calls = subst (AllByRecursion (FitsPlace kq)) (sym lo.calls.1) (calls_fit kq q.links.modules q.links.used _ mem'.ground (λ t. t.inits) (λ t f. f.inits) lo.calls.0)

    main_fits : FitsPlace kq (place_at 0 m)
    main_fits = (
      omega (arith, lo.any, mem'.ground.count),
      omega (
        arith,
        find_def_in true l.defs (record {
          name = main_name;
          version = any_version;
        }) (length l.cells) m fine.0.defs em,
        fine.0.small,
      ),
    )
