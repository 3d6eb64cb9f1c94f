-- What a log decides, for the rule in accepted lists: its value at closing, its word, its horizon.
-- Assumes nothing.
use mathlib.Core.Path.{◌≡◌, ap, sym, ◌∙◌, subst}
use mathlib.Core.Bool.{Bool, true, false}
use mathlib.Core.List.{List, [], ◌∷◌, ◌++◌}
use Prim.Native.Nat.{ℕ, ◌+◌, ◌<◌}
use native.Mathlib.Omega.{arith}
use lib.ListN.{length}
use Rattle.forms.specs.Form.{constant, same}
use Rattle.forms.proofs.Reading.{same_refl, same_not, constants_differ}
use Rattle.meaning.specs.Rule.{Ordered, Entry, entry_at, time_at, Rising}
use Rattle.meaning.specs.Meaning.{value_of}
use Rattle.meaning.specs.Horizon.{within, horizon, AllFinite}
use Rattle.meaning.specs.Words.{Known, first, feed, fed, close, value_if_last, after, word, word_of}
use Rattle.meaning.proofs.Blocks.{first_of_fits}
use Rattle.meaning.proofs.Theorems.{close_value, word_decides, decided_stays}
use Rattle.meaning.proofs.Horizons.{finite_horizon}
use Rattle.meaning.proofs.Settling.{settled_word}
use Rattle.watcher.proofs.Decoded.{Accepted, accepted_ordered, accepted_some}
use Rattle.demands.specs.Logs.{last_time}
use Rattle.demands.specs.Rewritten.{read_rule, parameters_in, word_after}
use Rattle.demands.proofs.Logs.{fed_more, last_known}

module _ (rule signals : List ℕ) (fine : Accepted rule signals) where
  rule_ordered : Ordered (read_rule rule)
  unfolding read_rule
  rule_ordered = accepted_ordered rule signals fine

  rule_some : 0 < length (read_rule rule)
  unfolding read_rule
  rule_some = accepted_some rule signals fine

  module _ (e : Entry) (es : List Entry) where
    -- closing leaves the constant that is the log's value, and says it
    pub close_constant : Rising (e ∷ es)
        → close (parameters_in rule) (read_rule rule) (after (parameters_in rule) (read_rule rule) e es)
        ≡ constant (parameters_in rule) (value_of (e ∷ es) (read_rule rule))
    unfolding parameters_in
    close_constant rising =
        close_value (read_rule rule) rule_ordered (parameters_in rule) (first_of_fits (read_rule rule)) rule_some e es
        rising

    pub value_closing : Rising (e ∷ es)
        → value_if_last (parameters_in rule) (read_rule rule) (after (parameters_in rule) (read_rule rule) e es)
        ≡ value_of (e ∷ es) (read_rule rule)
    unfolding value_if_last
    value_closing rising =
        ap (λ f. same (parameters_in rule) f (constant (parameters_in rule) true)) (close_constant rising)
        ∙ is_true (value_of (e ∷ es) (read_rule rule))
      where
        is_true : (b : Bool)
            → same (parameters_in rule) (constant (parameters_in rule) b) (constant (parameters_in rule) true) ≡ b
        is_true true = same_refl (parameters_in rule) (constant (parameters_in rule) true)
        is_true false =
            same_not (parameters_in rule) (constant (parameters_in rule) false) (constant (parameters_in rule) true)
            (constants_differ (parameters_in rule))

    -- a decided word: the value of every continuation, and the word after it
    value_decided : (b : Bool) → word_after rule (e ∷ es) ≡ word_of b → (more : List Entry) → Rising ((e ∷ es) ++ more)
        → value_of ((e ∷ es) ++ more) (read_rule rule) ≡ b
    unfolding word_after parameters_in
    value_decided b w more rising =
        word_decides (read_rule rule) rule_ordered (parameters_in rule)
        (first_of_fits (read_rule rule)) rule_some e es b
        w more rising

    word_decided : (b : Bool) → word_after rule (e ∷ es) ≡ word_of b → (more : List Entry)
        → word_after rule ((e ∷ es) ++ more) ≡ word_of b
    unfolding word_after after fed
    word_decided b w more =
        ap (λ s. word (parameters_in rule) s.remainder)
        (fed_more (parameters_in rule) (read_rule rule) (first (parameters_in rule) (read_rule rule) e) es more)
        ∙ go more (after (parameters_in rule) (read_rule rule) e es) w
      where
        go : (more : List Entry) (s : Known (parameters_in rule))
            → word (parameters_in rule) s.remainder ≡ word_of b
            → word (parameters_in rule) (fed (parameters_in rule) (read_rule rule) s more).remainder ≡ word_of b
        go [] s w = w
        go (d ∷ more) s w =
            go more (feed (parameters_in rule) (read_rule rule) s d)
            (decided_stays (parameters_in rule) (read_rule rule) s d b w)

  -- the same of a log that is not empty
  pub log_holds : (log : List Entry) → 0 < length log → (b : Bool) → word_after rule log ≡ word_of b
      → (more : List Entry) → Rising (log ++ more) → value_of (log ++ more) (read_rule rule) ≡ b
  log_holds [] long b w more rising = let z : ⊥ = omega arith in absurd z
  log_holds (e ∷ es) long b w more rising = value_decided e es b w more rising

  pub log_stays : (log : List Entry) → 0 < length log → (b : Bool) → word_after rule log ≡ word_of b
      → (more : List Entry) → word_after rule (log ++ more) ≡ word_of b
  log_stays [] long b w more = let z : ⊥ = omega arith in absurd z
  log_stays (e ∷ es) long b w more = word_decided e es b w more

  -- past the horizon the word is decided
  pub log_settled : (log : List Entry) → 0 < length log → Rising log → (h : ℕ) → horizon (read_rule rule) ≡ within h
      → time_at log 0 + h < last_time log → (b : Bool) × (word_after rule log ≡ word_of b)
  unfolding word_after time_at entry_at parameters_in
  log_settled [] long rising h limit past = let z : ⊥ = omega arith in absurd z
  log_settled (e ∷ es) long rising h limit past =
      settled_word (read_rule rule) rule_ordered (parameters_in rule) (first_of_fits (read_rule rule)) rule_some e es
      rising h limit (subst (λ t. e.time + h < t) (sym (last_known (parameters_in rule) (read_rule rule) e es)) past)

  -- finite forward limits give a horizon
  pub finite_rule : AllFinite (read_rule rule) → (h : ℕ) × (horizon (read_rule rule) ≡ within h)
  finite_rule finite = finite_horizon (read_rule rule) rule_ordered rule_some finite
