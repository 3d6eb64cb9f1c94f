-- What passes the tests of a call.
-- Assumes nothing.
use Rattle.std.proofs.Common.{Ok, Err}
use mathlib.Core.Path.{◌≡◌, refl, sym, ap, ◌∙◌}
use mathlib.Core.Bool.{Bool, true, false, not, cond, true≢false}
use mathlib.Core.List.{List, [], ◌∷◌, ◌++◌}
use Prim.Native.Nat.{ℕ, ◌^◌, ◌<◌}
use lib.ListN.{length, get_or}
use borrow.Author.Tests.{eq-eqb, eqb-true, not-false}
use Rattle.watcher.specs.declared.state.Refusal.{Refusal}
use Rattle.watcher.specs.declared.state.Refusal.TheVariants.{RuleParameters, SignalList, SignalMissing, AreaLength}
use Rattle.watcher.specs.declared.state.Watcher.{Watcher}
use Rattle.watcher.specs.Answers.{Found}
use Rattle.watcher.specs.Limits.{area_words}
use Rattle.watcher.specs.Lists.{Test, first_refusal}
use Rattle.watcher.specs.Lists.{rule_tests, rule_refusal, list_tests, lists_refusal}
use Rattle.watcher.specs.Rules.{records_of, many_parameters}
use Rattle.watcher.specs.Signals.{wrong_signals, names_missing}
use Rattle.watcher.specs.State.{broken_state}
use Rattle.watcher.specs.Calls.{wrong_area}
use Rattle.watcher.specs.Calls.{start_refusal, state_tests, feed_refusal, close_refusal}
use Rattle.watcher.specs.inside.Turns.{Passed}
use Rattle.watcher.proofs.Decoded.{first_fine, rule_most}

-- the tests of one list, then those of another
unfoldable then : Found → Found → Found
then (Ok tt) f = f
then (Err r) f = Err r

either_test : (x : Bool) (r : Refusal) (f g h : Found) → f ≡ then g h
    → cond x (Err r) f ≡ then (cond x (Err r) g) h
unfolding then
either_test true r f g h e = refl
either_test false r f g h e = e

first_append : (a b : List Test) → first_refusal (a ++ b) ≡ then (first_refusal a) (first_refusal b)
unfolding first_refusal then
first_append [] b = refl
first_append (t ∷ a) b = either_test t.holds t.gives _ _ _ (first_append a b)

-- what is refused of the lists, by what is refused of the rule, and of a start, by what is refused of the lists
module _ (rule signals ws : List ℕ) where
  abbrev behind : List Test
  behind =
      record { holds = many_parameters rule; gives = RuleParameters }
      ∷ record { holds = wrong_signals signals; gives = SignalList }
      ∷ record { holds = names_missing rule (records_of signals); gives = SignalMissing }
      ∷ []

  lists_whole : lists_refusal rule signals ≡ then (rule_refusal rule) (first_refusal behind)
  unfolding lists_refusal rule_refusal list_tests
  lists_whole = first_append (rule_tests rule) behind

  pub lists_first : (r : Refusal) → rule_refusal rule ≡ Err r → lists_refusal rule signals ≡ Err r
  unfolding then
  lists_first r e = lists_whole ∙ ap (λ f. then f (first_refusal behind)) e

  pub lists_rest : rule_refusal rule ≡ Ok tt
      → lists_refusal rule signals ≡ cond (many_parameters rule) (Err RuleParameters)
      (cond (wrong_signals signals) (Err SignalList)
      (cond (names_missing rule (records_of signals)) (Err SignalMissing) (Ok tt)))
  unfolding first_refusal then
  lists_rest e = lists_whole ∙ ap (λ f. then f (first_refusal behind)) e

  abbrev area : List Test
  area = record { holds = wrong_area ws; gives = AreaLength } ∷ []

  start_whole : start_refusal rule signals ws ≡ then (lists_refusal rule signals) (first_refusal area)
  unfolding start_refusal lists_refusal
  start_whole = first_append (list_tests rule signals) area

  pub start_first : (r : Refusal) → lists_refusal rule signals ≡ Err r → start_refusal rule signals ws ≡ Err r
  unfolding then
  start_first r e = start_whole ∙ ap (λ f. then f (first_refusal area)) e

  pub start_area : lists_refusal rule signals ≡ Ok tt
      → start_refusal rule signals ws ≡ cond (wrong_area ws) (Err AreaLength) (Ok tt)
  unfolding first_refusal then
  start_area e = start_whole ∙ ap (λ f. then f (first_refusal area)) e

pub ruleset list_order = (lists_first, lists_rest, rule_most)

pub ruleset start_order = (start_first, start_area)

-- a call that is not refused has an area of its length and a state that is not broken
none_first : (b : Bool) (r : Refusal) (rest : List Test)
    → first_refusal (record { holds = b; gives = r } ∷ rest) ≡ Ok tt
    → (b ≡ false) × (first_refusal rest ≡ Ok tt)
unfolding first_refusal
none_first b r rest e = first_fine b r _ e

pub area_right : (ws : List ℕ) → length ws ≡ area_words → wrong_area ws ≡ false
unfolding wrong_area
area_right ws e = ap not (eq-eqb (length ws) area_words e)

area_long : (ws : List ℕ) → wrong_area ws ≡ false → length ws ≡ area_words
unfolding wrong_area
area_long ws e = eqb-true (length ws) area_words (not-false _ e)

module _ (w : Watcher) (ws : List ℕ) where
  state_whole : (rest : List Test) → first_refusal (state_tests w ws ++ rest) ≡ Ok tt
      → (length ws ≡ area_words) × (broken_state w ws ≡ false)
  unfolding state_tests
  state_whole rest e =
      let a = none_first (wrong_area ws) _ _ e in
      (area_long ws a.0, (none_first (broken_state w ws) _ _ a.1).0)

  pub feed_long : (bytes : List ℕ) → feed_refusal w bytes ws ≡ Ok tt → length ws ≡ area_words
  unfolding feed_refusal
  feed_long bytes e = (state_whole _ e).0

  pub close_long : close_refusal w ws ≡ Ok tt → length ws ≡ area_words
  unfolding close_refusal
  close_long e = (state_whole _ e).0

module _ (w : Watcher) (ws : List ℕ) (small : (i : ℕ) → get_or ws i 0 < 2 ^ 64) where
  state_passed : (rest : List Test) → first_refusal (state_tests w ws ++ rest) ≡ Ok tt → Passed w ws
  state_passed rest e =
      let p = state_whole w ws rest e in record { long = p.0; small = small; whole = p.1 }

  pub feed_passed : (bytes : List ℕ) (f : Found) → f ≡ feed_refusal w bytes ws → f ≡ Ok tt → Passed w ws
  unfolding feed_refusal
  feed_passed bytes f is e = state_passed _ (sym is ∙ e)

  pub close_passed : (f : Found) → f ≡ close_refusal w ws → f ≡ Ok tt → Passed w ws
  unfolding close_refusal
  close_passed f is e = state_passed _ (sym is ∙ e)

then_fine : (f g : Found) → then f g ≡ Ok tt → (f ≡ Ok tt) × (g ≡ Ok tt)
unfolding then
then_fine (Ok tt) g e = (refl, e)
then_fine (Err r) g e = absurd (true≢false (first_fine true r (Ok tt) e).0)

-- start tests the lists, then the area
module _ (rule signals ws : List ℕ) where
  start_then : start_refusal rule signals ws
      ≡ then (lists_refusal rule signals) (cond (wrong_area ws) (Err AreaLength) (Ok tt))
  unfolding start_refusal lists_refusal first_refusal
  start_then = first_append (list_tests rule signals) _

  pub start_refused : (r : Refusal) → lists_refusal rule signals ≡ Err r → start_refusal rule signals ws ≡ Err r
  unfolding then
  start_refused r e = rw (start_then, e)

  pub start_fine : lists_refusal rule signals ≡ Ok tt → length ws ≡ area_words → start_refusal rule signals ws ≡ Ok tt
  unfolding then
  start_fine e long = rw (start_then, e, area_right ws long)

pub start_passed : (rule signals ws : List ℕ) (f : Found) → f ≡ start_refusal rule signals ws → f ≡ Ok tt
    → (lists_refusal rule signals ≡ Ok tt) × (length ws ≡ area_words)
unfolding start_refusal lists_refusal
start_passed rule signals ws f is e =
    let a = then_fine _ _ (sym (first_append (list_tests rule signals) _) ∙ sym is ∙ e) in
    (a.0, area_long ws (none_first (wrong_area ws) _ _ a.1).0)
