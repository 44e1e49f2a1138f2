-- A symbol means the first definition that can be seen.
use Rattle.std.proofs.lemmas.Option.{none-some, same_Some}
use Rattle.std.specs.List.{AllByRecursion}
use Rattle.std.specs.Prelude.{None, Option, Some}
use Rattle.std.proofs.Common.{◌≡◌, ℕ, Bool, true, false, eqb, List, [], ◌∷◌, length, sym, refl, ap, ◌∙◌, subst}
use Rattle.base.specs.Choices.{opt, on_some, guard}
use Rattle.base.specs.Names.{Name}
use Rattle.library.specs.Library.{Symbol, any_version}
use Rattle.links.specs.Symbols.{find_def}
use Rattle.links.specs.Links.{Place, place_at, Module, Links}
use Rattle.links.specs.Scope.{live_at, members_of, scope, lookup}
use Rattle.links.specs.Close.{is_open, found_in}
use Rattle.links.specs.Resolved.{offers, FirstOf, ResolveFirst}
use Rattle.links.proofs.Keys.{look_in, live_from}

-- one module after the other, by what each offers
lookup_on : (ms : List Module) (me : ℕ) (s : Symbol) (j : ℕ) (js : List ℕ) → lookup ms me s (j ∷ js) ≡ opt (offers ms me s j) (lookup ms me s js) (λ k. Some (place_at j k))
lookup_on ms me s j js = go (live_at ms j)
  where
    def_go : (o : Option ℕ) → opt (on_some o (λ k. Some (place_at j k))) (lookup ms me s js) Some ≡ opt o (lookup ms me s js) (λ k. Some (place_at j k))
    def_go None = refl
    def_go (Some k) = refl

    go : (o : Option Module) → opt (on_some o (λ x. on_some (find_def (eqb me j) x.lib.defs s) (λ k. Some (place_at j k)))) (lookup ms me s js) Some ≡ opt (on_some o (λ x. find_def (eqb me j) x.lib.defs s)) (lookup ms me s js) (λ k. Some (place_at j k))
    go None = refl
    go (Some x) = def_go (find_def (eqb me j) x.lib.defs s)

module _ (ms : List Module) (me : ℕ) (s : Symbol) where
  lookup_first : (js : List ℕ) (p : Place) → lookup ms me s js ≡ Some p → FirstOf ms me s js p
  lookup_first [] p e = absurd (none-some _ e)
  lookup_first (j ∷ js) p e = go (offers ms me s j) refl (sym (lookup_on ms me s j js) ∙ e) (lookup_first js p)
    where
      go : (o : Option ℕ) → offers ms me s j ≡ o → opt o (lookup ms me s js) (λ k. Some (place_at j k)) ≡ Some p → (lookup ms me s js ≡ Some p → FirstOf ms me s js p) → FirstOf ms me s (j ∷ js) p
      go None q e r = let t = r e in record { earlier = j ∷ t.earlier; later = t.later; stands = ap (λ z. j ∷ z) t.stands; nothing = (q, t.nothing); cell = t.cell }
      go (Some k) q e r = subst (FirstOf ms me s (j ∷ js)) (same_Some _ _ e) (record { earlier = []; later = js; stands = refl; nothing = tt; cell = q })

  lookup_nowhere : (js : List ℕ) → lookup ms me s js ≡ None → AllByRecursion (λ j. offers ms me s j ≡ None) js
  lookup_nowhere [] e = tt
  lookup_nowhere (j ∷ js) e = go (offers ms me s j) refl (sym (lookup_on ms me s j js) ∙ e) (lookup_nowhere js)
    where
      go : (o : Option ℕ) → offers ms me s j ≡ o → opt o (lookup ms me s js) (λ k. Some (place_at j k)) ≡ None → (lookup ms me s js ≡ None → AllByRecursion (λ j. offers ms me s j ≡ None) js) → (offers ms me s j ≡ None) × AllByRecursion (λ j. offers ms me s j ≡ None) js
      go None q e r = (q, r e)
      go (Some k) q e r = absurd (none-some _ (sym e))

found_first : (k : Links) (h : ℕ) (x : Name) (p : Place) → found_in k h x ≡ Some p → (is_open k h ≡ true) × FirstOf k.modules (length k.modules) (record { name = x; version = any_version }) (members_of k.groups h) p
found_first k h x p e = go (is_open k h) refl e
  where
    go : (b : Bool) → is_open k h ≡ b → guard b (lookup k.modules (length k.modules) (record { name = x; version = any_version }) (members_of k.groups h)) ≡ Some p → (is_open k h ≡ true) × FirstOf k.modules (length k.modules) (record { name = x; version = any_version }) (members_of k.groups h) p
    go true q e = (q, lookup_first k.modules (length k.modules) _ (members_of k.groups h) p e)
    go false q e = absurd (none-some _ e)

pub resolve_first : ResolveFirst
resolve_first = record { found = λ k me s p e. lookup_first k.modules me s (scope k me) p e; nowhere = λ k me s e. lookup_nowhere k.modules me s (scope k me) e; live = λ k me s p e. let t = look_in k.modules me s (scope k me) p e in (t.0, live_from k.modules p.host t.0 t.2 t.3); in_group = λ k h x p e. found_first k h x p e }
