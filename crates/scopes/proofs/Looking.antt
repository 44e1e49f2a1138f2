-- Lists looked through from an element on, and what of tables it stands for.
use Rattle.std.specs.Prelude.{Bool, true, false, ◌==◌, None, Option, Some, cond, is_some, slice_get}
use Rattle.std.specs.Option.{option_map, option_or}
use Rattle.std.specs.List.{between}
use Rattle.std.proofs.Common.{◌≡◌, ℕ, zero, suc, ◌+◌, ◌-◌, ◌<◌, ◌≤◌, List, [], ◌∷◌, ◌++◌, map, length, take, drop, sym, refl, ap, ◌∙◌, true≢false, arith}
use Rattle.std.proofs.lemmas.Option.{same_Some, none-some, slice_get-map}
use Rattle.base.specs.Choices.{opt, on_some, guard}
use Rattle.library.specs.Library.{Library, Definition, Symbol, any_version}
use Rattle.links.specs.Links.{Place, Module, Group, place_at}
use Rattle.links.specs.Symbols.{matches, find_def}
use Rattle.links.specs.Scope.{lookup, global_members, members_of, resolve}
use Rattle.links.specs.Close.{found_in}
use Rattle.libraries.specs.Looks.{part_at}
use Rattle.base.specs.Names.{Name}
use Rattle.lent.specs.Tables.{rows_in}
use Rattle.lent.proofs.Rows.{rows_past}
use Rattle.linkage.specs.Rows.{group_at}
use Rattle.linkage.specs.Tables.{library_at, module_at, live_in, open_in, module_of, group_of, links_of, number_in}
use Rattle.linkage.specs.declared.tables.Tables.{Tables}
use Rattle.linkage.specs.declared.types.Module as code
use Rattle.linkage.specs.declared.types.Group as groups
use Rattle.linkage.proofs.Numbered.{module_is, modules_len}
use Rattle.scopes.specs.Looks.{seen_in, shared}

-- a list from element i on
drop_next : {A : Type 0} (xs : List A) (i : ℕ) (x : A) → Some x ≡ slice_get xs i → drop i xs ≡ x ∷ drop (i + 1) xs
drop_next [] i x e = absurd (none-some _ (sym e))
drop_next (y ∷ ys) zero x e = ap (λ z. z ∷ ys) (same_Some _ _ (sym e))
drop_next (y ∷ ys) (suc i) x e = drop_next ys i x e ∙ (let q : suc (i + 1) ≡ suc i + 1 = omega arith in ap (λ n. x ∷ drop n (y ∷ ys)) q)

drop_past : {A : Type 0} (xs : List A) (i : ℕ) → None ≡ slice_get xs i → drop i xs ≡ []
drop_past [] zero e = refl
drop_past [] (suc i) e = refl
drop_past (y ∷ ys) zero e = absurd (none-some _ e)
drop_past (y ∷ ys) (suc i) e = drop_past ys i e

-- elements i to before j
between_next : {A : Type 0} (xs : List A) (i j : ℕ) (x : A) → i < j → Some x ≡ slice_get xs i → between i j xs ≡ x ∷ between (i + 1) j xs
between_next xs i j x h e = let q : j - i ≡ suc (j - (i + 1)) = omega arith in ap (take (j - i)) (drop_next xs i x e) ∙ ap (λ n. take n (x ∷ drop (i + 1) xs)) q

between_past : {A : Type 0} (xs : List A) (i j : ℕ) → None ≡ slice_get xs i → between i j xs ≡ []
between_past {A = A} xs i j e = ap (take (j - i)) (drop_past xs i e) ∙ take_none (j - i)
  where
    take_none : (n : ℕ) → ◌≡◌ {A = List A} (take n []) []
    take_none zero = refl
    take_none (suc n) = refl

-- definition i is the one that is meant, or the next ones are looked at
defs_of : (ls : List Library) (k i : ℕ) → part_at ls k (λ l. l.defs) i ≡ slice_get (library_at ls k).defs i
defs_of ls k i = go (slice_get ls k)
  where
    go : (o : Option Library) → on_some o (λ l. slice_get l.defs i) ≡ slice_get (opt o (library_at [] 0) (λ l. l)).defs i
    go None = refl
    go (Some l) = refl

def_next : (mine : Bool) (ds : List Definition) (i : ℕ) (d : Definition) (s : Symbol) → Some d ≡ slice_get ds i → find_def mine (drop i ds) s ≡ cond (matches mine s d) (Some d.cell) (find_def mine (drop (i + 1) ds) s)
def_next mine ds i d s e = ap (λ xs. find_def mine xs s) (drop_next ds i d e)

-- the first of two that there is
opt_or : {A : Type 0} (o p : Option A) → opt o p Some ≡ option_or o p
opt_or None p = refl
opt_or (Some x) p = refl

or_or : {A : Type 0} (o p q : Option A) → option_or (option_or o p) q ≡ option_or o (option_or p q)
or_or None p q = refl
or_or (Some x) p q = refl

or_none : {A : Type 0} (o : Option A) → option_or o None ≡ o
or_none None = refl
or_none (Some x) = refl

-- modules looked through, one after the other
lookup_next : (ms : List Module) (me : ℕ) (s : Symbol) (j : ℕ) (js : List ℕ) → lookup ms me s (j ∷ js) ≡ option_or (seen_in ms me s j) (lookup ms me s js)
lookup_next ms me s j js = opt_or (seen_in ms me s j) (lookup ms me s js)

lookup-append : (ms : List Module) (me : ℕ) (s : Symbol) (xs ys : List ℕ) → lookup ms me s (xs ++ ys) ≡ option_or (lookup ms me s xs) (lookup ms me s ys)
lookup-append ms me s [] ys = refl
lookup-append ms me s (j ∷ js) ys =
    opt_or (seen_in ms me s j) (lookup ms me s (js ++ ys))
    ∙ ap (option_or (seen_in ms me s j)) (lookup-append ms me s js ys)
    ∙ sym (or_or (seen_in ms me s j) (lookup ms me s js) (lookup ms me s ys))
    ∙ ap (λ o. option_or o (lookup ms me s ys)) (sym (opt_or (seen_in ms me s j) (lookup ms me s js)))

-- what a module has, by what the tables say of it
abbrev had : List Library → ℕ → Symbol → ℕ → Option code.Module → Option Place
had ls me s j o = on_some o (λ m. on_some (find_def (me == j) (library_at ls m.load.library.0).defs s) (λ k. Some (place_at j k)))

pub module_has : (ls : List Library) (t : Tables) (me : ℕ) (s : Symbol) (j : ℕ) (o : Option code.Module) → o ≡ live_in t j → had ls me s j o ≡ seen_in (links_of ls t).modules me s j
module_has ls t me s j o e = ap (had ls me s j) e ∙ go (slice_get (rows_in 3 t.modules) j) ∙ sym (ap (λ o. seen o) (module_is ls t j))
  where
    seen : Option Module → Option Place
    seen o = on_some (on_some o (λ x. guard x.live (Some x))) (λ x. on_some (find_def (me == j) x.lib.defs s) (λ k. Some (place_at j k)))

    at : (b : Bool) (x : Module) (m : code.Module) → x.lib ≡ library_at ls m.load.library.0 → had ls me s j (guard b (Some m)) ≡ on_some (guard b (Some x)) (λ x. on_some (find_def (me == j) x.lib.defs s) (λ k. Some (place_at j k)))
    at true x m e = ap (λ (l : Library). on_some (find_def (me == j) l.defs s) (λ k. Some (place_at j k))) (sym e)
    at false x m e = refl

    go : (r : Option (List ℕ)) → had ls me s j (on_some (option_map (module_at t j) r) (λ m. guard m.live (Some m))) ≡ seen (option_map (module_of ls t j) r)
    go None = refl
    go (Some r) = at (module_at t j r).live (module_of ls t j r) (module_at t j r) refl

-- the cell that a module has
pub cell_in : (ls : List Library) (t : Tables) (me : ℕ) (s : Symbol) (j : ℕ) (m : code.Module) (c : Option ℕ) → Some m ≡ live_in t j → c ≡ find_def (me == j) (library_at ls m.load.library.0).defs s → on_some c (λ k. Some (place_at j k)) ≡ seen_in (links_of ls t).modules me s j
cell_in ls t me s j m c e f = ap (λ o. on_some o (λ k. Some (place_at j k))) f ∙ module_has ls t me s j (Some m) e

-- the definition that is meant was found, or not yet
pub def_found : (ls : List Library) (k i : ℕ) (mine : Bool) (d : Definition) (s : Symbol) (b : Bool) (r : Option ℕ) → Some d ≡ part_at ls k (λ l. l.defs) i → b ≡ matches mine s d → b ≡ true → find_def mine (drop i (library_at ls k).defs) s ≡ r → Some d.cell ≡ r
def_found ls k i mine d s b r e m t h =
    let ds = (library_at ls k).defs in
    sym (def_next mine ds i d s (e ∙ defs_of ls k i) ∙ ap (λ b. cond b (Some d.cell) (find_def mine (drop (i + 1) ds) s)) (sym m ∙ t)) ∙ h

pub def_on : (ls : List Library) (k i : ℕ) (mine : Bool) (d : Definition) (s : Symbol) (b : Bool) (r : Option ℕ) → Some d ≡ part_at ls k (λ l. l.defs) i → b ≡ matches mine s d → b ≡ false → find_def mine (drop i (library_at ls k).defs) s ≡ r → find_def mine (drop (i + 1) (library_at ls k).defs) s ≡ r
def_on ls k i mine d s b r e m t h =
    let ds = (library_at ls k).defs in
    sym (def_next mine ds i d s (e ∙ defs_of ls k i) ∙ ap (λ b. cond b (Some d.cell) (find_def mine (drop (i + 1) ds) s)) (sym m ∙ t)) ∙ h

-- the first of two that there is, by a test
pub took : {A B : Type 0} (f : A → B) (p : Option A) (o q r : Option B) (b : Bool) → option_map f p ≡ o → b ≡ is_some p → b ≡ true → option_or o q ≡ r → option_map f p ≡ r
took f None o q r b e i t h = absurd (true≢false (sym t ∙ i))
took f (Some x) o q r b e i t h = ap (λ z. option_or z q) e ∙ h

pub passed : {A B : Type 0} (f : A → B) (p : Option A) (o q r : Option B) (b : Bool) → option_map f p ≡ o → b ≡ is_some p → b ≡ false → option_or o q ≡ r → q ≡ r
passed f None o q r b e i t h = ap (λ z. option_or z q) e ∙ h
passed f (Some x) o q r b e i t h = absurd (true≢false (sym i ∙ t))

-- a group's members looked through from row i on
pub member_next : (ms : List Module) (me : ℕ) (s : Symbol) (rs : List (List ℕ)) (i e j : ℕ) (r : Option Place) → i < e → Some j ≡ option_map number_in (slice_get rs i) → lookup ms me s (map number_in (between i e rs)) ≡ r → option_or (seen_in ms me s j) (lookup ms me s (map number_in (between (i + 1) e rs))) ≡ r
member_next ms me s rs i e j r h p inv = go (slice_get rs i) refl p
  where
    go : (o : Option (List ℕ)) → slice_get rs i ≡ o → Some j ≡ option_map number_in o → option_or (seen_in ms me s j) (lookup ms me s (map number_in (between (i + 1) e rs))) ≡ r
    go None q p = absurd (none-some _ (sym p))
    go (Some x) q p =
        let rest = map number_in (between (i + 1) e rs) in
        ap (λ k. option_or (seen_in ms me s k) (lookup ms me s rest)) (same_Some _ _ p)
        ∙ sym (lookup_next ms me s (number_in x) rest)
        ∙ sym (ap (λ xs. lookup ms me s (map number_in xs)) (between_next rs i e x h (sym q)))
        ∙ inv

pub member_past : (ms : List Module) (me : ℕ) (s : Symbol) (rs : List (List ℕ)) (i e : ℕ) (r : Option Place) → None ≡ option_map number_in (slice_get rs i) → lookup ms me s (map number_in (between i e rs)) ≡ r → None ≡ r
member_past ms me s rs i e r p inv = go (slice_get rs i) refl p
  where
    go : (o : Option (List ℕ)) → slice_get rs i ≡ o → None ≡ option_map number_in o → None ≡ r
    go None q p = sym (ap (λ xs. lookup ms me s (map number_in xs)) (between_past rs i e (sym q))) ∙ inv
    go (Some x) q p = absurd (none-some _ p)

-- a group, by what the tables say of it
group_is : (ls : List Library) (t : Tables) (n : ℕ) → slice_get (links_of ls t).groups n ≡ option_map (group_of t) (option_map group_at (slice_get (rows_in 3 t.groups) n))
group_is ls t n = slice_get-map (λ r. group_of t (group_at r)) (rows_in 3 t.groups) n ∙ go (slice_get (rows_in 3 t.groups) n)
  where
    go : (o : Option (List ℕ)) → option_map (λ r. group_of t (group_at r)) o ≡ option_map (group_of t) (option_map group_at o)
    go None = refl
    go (Some r) = refl

-- all groups looked through from group n on
pub group_next : (ls : List Library) (t : Tables) (me : ℕ) (s : Symbol) (n : ℕ) (g : groups.Group) (r : Option Place) → Some g ≡ option_map group_at (slice_get (rows_in 3 t.groups) n) → lookup (links_of ls t).modules me s (global_members (drop n (links_of ls t).groups)) ≡ r → option_or (lookup (links_of ls t).modules me s (shared (group_of t g))) (lookup (links_of ls t).modules me s (global_members (drop (n + 1) (links_of ls t).groups))) ≡ r
group_next ls t me s n g r e inv =
    let ms = (links_of ls t).modules in
    let gs = (links_of ls t).groups in
    sym (ap (λ xs. lookup ms me s (global_members xs)) (drop_next gs n (group_of t g) (ap (option_map (group_of t)) e ∙ sym (group_is ls t n)))
    ∙ lookup-append ms me s (shared (group_of t g)) (global_members (drop (n + 1) gs)))
    ∙ inv

pub group_past : (ls : List Library) (t : Tables) (me : ℕ) (s : Symbol) (n : ℕ) (r : Option Place) → None ≡ option_map group_at (slice_get (rows_in 3 t.groups) n) → lookup (links_of ls t).modules me s (global_members (drop n (links_of ls t).groups)) ≡ r → None ≡ r
group_past ls t me s n r e inv =
    sym (ap (λ xs. lookup (links_of ls t).modules me s (global_members xs)) (drop_past (links_of ls t).groups n (ap (option_map (group_of t)) e ∙ sym (group_is ls t n)))) ∙ inv

pub groups_end : (ls : List Library) (t : Tables) (me : ℕ) (s : Symbol) (n : ℕ) (r : Option Place) → t.groups.len ≤ n → lookup (links_of ls t).modules me s (global_members (drop n (links_of ls t).groups)) ≡ r → None ≡ r
groups_end ls t me s n r h inv = group_past ls t me s n r (sym (ap (option_map group_at) (rows_past 3 t.groups.words.now t.groups.len n h))) inv

-- what a module looks through, part by part
pub resolve_is : (ls : List Library) (t : Tables) (me : ℕ) (s : Symbol) (o : Option code.Module) → o ≡ option_map (module_at t me) (slice_get (rows_in 3 t.modules) me) → on_some o (λ m. option_or (cond (library_at ls m.load.library.0).inward (seen_in (links_of ls t).modules me s me) None) (option_or (lookup (links_of ls t).modules me s (global_members (links_of ls t).groups)) (lookup (links_of ls t).modules me s (members_of (links_of ls t).groups m.load.group)))) ≡ resolve (links_of ls t) me s
resolve_is ls t me s o e = ap by_parts e ∙ go (slice_get (rows_in 3 t.modules) me) ∙ ap by_scope (sym (module_is ls t me))
  where
    ms : List Module
    ms = (links_of ls t).modules

    gs : List Group
    gs = (links_of ls t).groups

    by_parts : Option code.Module → Option Place
    by_parts o = on_some o (λ m. option_or (cond (library_at ls m.load.library.0).inward (seen_in ms me s me) None) (option_or (lookup ms me s (global_members gs)) (lookup ms me s (members_of gs m.load.group))))

    by_scope : Option Module → Option Place
    by_scope o = lookup ms me s (opt o [] (λ x. cond x.lib.inward (me ∷ []) [] ++ (global_members gs ++ members_of gs x.group)))

    own : (b : Bool) → lookup ms me s (cond b (me ∷ []) []) ≡ cond b (seen_in ms me s me) None
    own true = lookup_next ms me s me [] ∙ or_none (seen_in ms me s me)
    own false = refl

    at : (b : Bool) (js : List ℕ) → lookup ms me s (cond b (me ∷ []) [] ++ (global_members gs ++ js)) ≡ option_or (cond b (seen_in ms me s me) None) (option_or (lookup ms me s (global_members gs)) (lookup ms me s js))
    at b js =
        lookup-append ms me s (cond b (me ∷ []) []) (global_members gs ++ js)
        ∙ ap (λ o. option_or o (lookup ms me s (global_members gs ++ js))) (own b)
        ∙ ap (option_or (cond b (seen_in ms me s me) None)) (lookup-append ms me s (global_members gs) js)

    go : (r : Option (List ℕ)) → by_parts (option_map (module_at t me) r) ≡ by_scope (option_map (module_of ls t me) r)
    go None = refl
    go (Some r) = sym (at (module_of ls t me r).lib.inward (members_of gs (module_of ls t me r).group))

-- what is found in a group
pub found_is : (ls : List Library) (t : Tables) (h : ℕ) (x : Name) (o : Option groups.Group) → o ≡ open_in t h → on_some o (λ g. lookup (links_of ls t).modules t.modules.len (record { name = x; version = any_version }) (group_of t g).members) ≡ found_in (links_of ls t) h x
found_is ls t h x o e =
    ap (found t.modules.len) e
    ∙ ap (λ n. found n (open_in t h)) (sym (modules_len ls t))
    ∙ go (slice_get (rows_in 3 t.groups) h)
    ∙ ap by (sym (group_is ls t h))
  where
    looked : ℕ → groups.Group → Option Place
    looked n g = lookup (links_of ls t).modules n (record { name = x; version = any_version }) (group_of t g).members

    found : ℕ → Option groups.Group → Option Place
    found n o = on_some o (looked n)

    by : Option Group → Option Place
    by o = guard (opt o false (λ g. g.opened)) (lookup (links_of ls t).modules (length (links_of ls t).modules) (record { name = x; version = any_version }) (opt o [] (λ g. g.members)))

    at : (b : Bool) (g : groups.Group) (n : ℕ) → found n (guard b (Some g)) ≡ guard b (looked n g)
    at true g n = refl
    at false g n = refl

    go : (r : Option (List ℕ)) → found (length (links_of ls t).modules) (on_some (option_map group_at r) (λ g. guard g.opened (Some g))) ≡ by (option_map (group_of t) (option_map group_at r))
    go None = refl
    go (Some r) = at (group_at r).opened (group_at r) (length (links_of ls t).modules)
