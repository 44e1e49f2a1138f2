-- What the group has that a load opens.
use Rattle.std.proofs.lemmas.Option.{same_Some}
use Rattle.std.specs.List.{list_all}
use Rattle.std.specs.Option.{option_map}
use Rattle.std.specs.Prelude.{None, Option, Some, cond, is_some, slice_get}
use Rattle.std.proofs.Common.{◌≡◌, ℕ, suc, true, not, ◌&&◌, ◌||◌, eqb, leb, List, [], ◌∷◌, ◌++◌, map, length, sym, refl, ap, ◌∙◌, subst, ⊎_elim, append_assoc, append-nil, arith}
use Rattle.base.specs.Choices.{opt, on_some}
use Rattle.base.specs.Lists.{has}
use Rattle.base.specs.Names.{Name, same}
use Rattle.base.proofs.Choices.{on_some_inv, guard_inv}
use Rattle.base.proofs.Lists.{slice_get_last}
use Rattle.library.specs.Library.{Symbol, Cell, number, ref, at, slot, named, instruction, Library, find_library}
use Rattle.links.specs.Closure.{init_order}
use Rattle.links.specs.Links.{Module, key, Links, Room}
use Rattle.links.specs.Scope.{live_at, resolve}
use Rattle.links.specs.Load.{Brought, joined, unbound, added, fits, find_loaded, bring_one, bring_all, ref_met, refs_met, bind_refs, init_ids, calls_of, with_group, nothing_yet}
use Rattle.links.specs.Opens.{live_name, turns, LoadOpens}
use Rattle.links.proofs.Keys.{live_inv, live_from, same_key, resolve_stable}
use Rattle.links.proofs.Lives.{live_left, live_keys, find_named, loaded_is}
use Rattle.links.proofs.Loading.{Parts, load_parts, bind_refs_keys, calls_same, map_push}
use Rattle.std.proofs.lemmas.Bool.{and_parts, eqb-true, or_cases}

-- names of live modules stay in a longer list, and with the same keys
names_left : (ms ns : List Module) (js : List ℕ) (xs : List Name) → map (live_name ms) js ≡ map Some xs → map (live_name (ms ++ ns)) js ≡ map Some xs
names_left ms ns [] [] e = refl
names_left ms ns [] (x ∷ xs) e = let z : ◌≡◌ {A = ℕ} 0 1 = cc in absurd (omega arith)
names_left ms ns (j ∷ js) [] e = let z : ◌≡◌ {A = ℕ} 0 1 = cc in absurd (omega arith)
names_left ms ns (j ∷ js) (x ∷ xs) e = let p : live_name ms j ≡ Some x = cc in let q : map (live_name ms) js ≡ map Some xs = cc in λ t. one (live_at ms j) refl p t ∷ names_left ms ns js xs q t
  where
    one : (o : Option Module) → live_at ms j ≡ o → option_map (λ x. x.lib.name) o ≡ Some x → live_name (ms ++ ns) j ≡ Some x
    one None q e = let z : ◌≡◌ {A = ℕ} 0 1 = cc in absurd (omega arith)
    one (Some y) q e = ap (option_map (λ x. x.lib.name)) (live_left ms ns j y q) ∙ e

names_keys : (ms ns : List Module) → map key ms ≡ map key ns → (js : List ℕ) (xs : List Name) → map (live_name ms) js ≡ map Some xs → map (live_name ns) js ≡ map Some xs
names_keys ms ns k [] [] e = refl
names_keys ms ns k [] (x ∷ xs) e = let z : ◌≡◌ {A = ℕ} 0 1 = cc in absurd (omega arith)
names_keys ms ns k (j ∷ js) [] e = let z : ◌≡◌ {A = ℕ} 0 1 = cc in absurd (omega arith)
names_keys ms ns k (j ∷ js) (x ∷ xs) e = let p : live_name ms j ≡ Some x = cc in let q : map (live_name ms) js ≡ map Some xs = cc in λ t. one (live_at ms j) refl p t ∷ names_keys ms ns k js xs q t
  where
    one : (o : Option Module) → live_at ms j ≡ o → option_map (λ x. x.lib.name) o ≡ Some x → live_name ns j ≡ Some x
    one None q e = let z : ◌≡◌ {A = ℕ} 0 1 = cc in absurd (omega arith)
    one (Some y) q e = let t = live_keys ms ns k j y q in ap (option_map (λ x. x.lib.name)) t.1 ∙ ap (λ z. Some z.lib.name) t.2 ∙ e

-- the members so far have these names
abbrev NamesSo : List Name → Brought → Type 0
NamesSo xs b = map (live_name b.modules) b.members ≡ map Some xs

module _ (ls : List Library) (m : Room) (g : ℕ) where
  one_named : (xs : List Name) (b c : Brought) (x : Name) → NamesSo xs b → bring_one ls m g b x ≡ Some c → NamesSo (xs ++ (x ∷ [])) c
  one_named xs b c x r e = go (find_loaded b.modules 0 x) refl e
    where
      kept : (d : Brought) → fits m d ≡ Some c → NamesSo (xs ++ (x ∷ [])) d → NamesSo (xs ++ (x ∷ [])) c
      kept d q f = subst (NamesSo (xs ++ (x ∷ []))) (guard_inv (leb d.used m.words) d c q).1 f

      pushed : (ms : List Module) (j : ℕ) → map (live_name ms) b.members ≡ map Some xs → live_name ms j ≡ Some x → map (live_name ms) (b.members ++ (j ∷ [])) ≡ map Some (xs ++ (x ∷ []))
      pushed ms j p q = map_push (live_name ms) b.members j ∙ (λ t. p t ++ (q t ∷ [])) ∙ sym (map_push Some xs x)

      go : (o : Option ℕ) → find_loaded b.modules 0 x ≡ o → opt o (on_some (find_library ls x) (λ l. fits m (added m g b l))) (λ j. fits m (joined b j)) ≡ Some c → NamesSo (xs ++ (x ∷ [])) c
      go None p q = let t = on_some_inv (find_library ls x) (λ l. fits m (added m g b l)) c q in kept (added m g b t.0) t.2 (pushed (b.modules ++ (unbound g t.0 ∷ [])) (length b.modules) (names_left b.modules (unbound g t.0 ∷ []) b.members xs r) (ap (option_map (λ x. x.lib.name)) (live_from (b.modules ++ (unbound g t.0 ∷ [])) (length b.modules) (unbound g t.0) (slice_get_last b.modules (unbound g t.0)) refl) ∙ ap Some (find_named ls x t.0 t.1)))
      go (Some j) p q = let t = loaded_is b.modules 0 x j p in let n : j ≡ t.0 = omega (arith, t.2) in kept (joined b j) q (pushed b.modules j r (ap (live_name b.modules) n ∙ ap (option_map (λ x. x.lib.name)) t.3 ∙ ap Some t.4))

  all_named : (xs ys : List Name) (b c : Brought) → NamesSo xs b → bring_all ls m g ys b ≡ Some c → NamesSo (xs ++ ys) c
  all_named xs [] b c r e = subst (λ zs. NamesSo zs c) (sym (append-nil xs)) (subst (NamesSo xs) (same_Some _ _ e) r)
  all_named xs (y ∷ ys) b c r e = let t = on_some_inv (bring_one ls m g b y) (λ d. bring_all ls m g ys d) c e in subst (λ zs. NamesSo zs c) (append_assoc xs (y ∷ []) ys) (all_named (xs ++ (y ∷ [])) ys t.0 c (one_named xs b t.0 y r t.1) t.2)

-- refs are met alike where symbols mean alike
met_stable : (k q : Links) → ((me : ℕ) (s : Symbol) → resolve q me s ≡ resolve k me s) → (i : ℕ) (cs : List Cell) → list_all (ref_met q i) cs ≡ list_all (ref_met k i) cs
met_stable k q h i [] = refl
met_stable k q h i (number n ∷ cs) = met_stable k q h i cs
met_stable k q h i (ref s n must ∷ cs) = λ t. (not must || is_some (h i s t)) && met_stable k q h i cs t
met_stable k q h i (at n ∷ cs) = met_stable k q h i cs
met_stable k q h i (slot s ∷ cs) = met_stable k q h i cs
met_stable k q h i (named x ∷ cs) = met_stable k q h i cs
met_stable k q h i (instruction o ∷ cs) = met_stable k q h i cs

met_at : (k : Links) (is : List ℕ) (i : ℕ) (y : Module) → refs_met k is ≡ true → has i is ≡ true → slice_get k.modules i ≡ Some y → list_all (ref_met k i) y.lib.cells ≡ true
met_at k [] i y e h q = let z : ◌≡◌ {A = ℕ} 0 1 = cc in absurd (omega arith)
met_at k (j ∷ is) i y e h q = let p = and_parts (opt (slice_get k.modules j) true (λ x. list_all (ref_met k j) x.lib.cells)) (refs_met k is) e in ⊎_elim (λ s. sym (ap (λ o. opt o true (λ x. list_all (ref_met k i) x.lib.cells)) q) ∙ ap (λ n. opt (slice_get k.modules n) true (λ x. list_all (ref_met k n) x.lib.cells)) (eqb-true i j s) ∙ p.0) (λ s. met_at k is i y p.1 s q) (or_cases (eqb i j) (has i is) h)

-- the live module of a name goes by keys, and so do turns
loaded_keys : (ms ns : List Module) → map key ms ≡ map key ns → (n : ℕ) (x : Name) → find_loaded ms n x ≡ find_loaded ns n x
loaded_keys [] [] e n x = refl
loaded_keys [] (y ∷ ns) e n x = let z : ◌≡◌ {A = ℕ} 0 1 = cc in absurd (omega arith)
loaded_keys (y ∷ ms) [] e n x = let z : ◌≡◌ {A = ℕ} 0 1 = cc in absurd (omega arith)
loaded_keys (y ∷ ms) (z ∷ ns) e n x = let p : key y ≡ key z = cc in let q : map key ms ≡ map key ns = cc in λ t. cond ((p t).live && same (p t).lib.name x) (Some n) (loaded_keys ms ns q (suc n) x t)

turns_keys : (ms ns : List Module) → map key ms ≡ map key ns → (new : List ℕ) (xs : List Name) → init_ids ms new xs ≡ init_ids ns new xs
turns_keys ms ns e new [] = refl
turns_keys ms ns e new (x ∷ xs) = λ t. opt (loaded_keys ms ns e 0 x t) (turns_keys ms ns e new xs t) (λ j. cond (has j new) (j ∷ turns_keys ms ns e new xs t) (turns_keys ms ns e new xs t))

pub load_opens : LoadOpens
load_opens ls m x global k l e = record { names = p.names; members = b.members; closure_is = p.closed; group = ap (λ q. q.links.groups) p.is; named = names_keys b.modules l.links.modules (sym keys) b.members p.names (all_named ls m (length k.groups) [] p.names (nothing_yet k) b refl p.brings); met = met; order = ap (λ q. q.links.order) p.is ∙ ap (λ js. k.order ++ js) turns_are; calls = ap (λ q. q.calls) p.is ∙ ap (calls_of (λ z. z.inits) b.modules) turns_are ∙ calls_same (λ z. z.inits) b.modules l.links.modules (sym keys) (turns ls x l) }
  where
    p : Parts ls m x global k l
    p = load_parts ls m x global k l e

    b : Brought
    b = p.brought

    t : Links
    t = with_group k b global

    keys : map key l.links.modules ≡ map key b.modules
    keys = ap (λ q. map key q.links.modules) p.is ∙ bind_refs_keys t b.new b.modules

    turns_are : init_ids b.modules b.new (init_order ls x) ≡ turns ls x l
    turns_are = turns_keys b.modules l.links.modules (sym keys) b.new (init_order ls x) ∙ ap (λ is. init_ids l.links.modules is (init_order ls x)) (sym (ap (λ q. q.new) p.is))

    alike : (me : ℕ) (s : Symbol) → resolve l.links me s ≡ resolve t me s
    alike me s = ap (λ q. resolve q.links me s) p.is ∙ resolve_stable t (bind_refs t b.new b.modules) (bind_refs_keys t b.new b.modules) me s

    met : (i : ℕ) (y : Module) → has i l.new ≡ true → live_at l.links.modules i ≡ Some y → list_all (ref_met l.links i) y.lib.cells ≡ true
    met i y h q = let s = same_key l.links.modules b.modules keys i y (live_inv l.links.modules i y q).0 in met_stable t l.links alike i y.lib.cells ∙ ap (λ z. list_all (ref_met t i) z.lib.cells) (sym s.2) ∙ met_at t b.new i s.0 p.met (subst (λ r. has i r.new ≡ true) p.is h) s.1
