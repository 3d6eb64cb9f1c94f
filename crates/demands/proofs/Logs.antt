-- Logs of accepted records: their times never fall, and what is known after one is as refusal 12 asks.
-- Assumes nothing.
use mathlib.Core.Path.{◌≡◌, refl, ap, ◌∙◌, subst, sym}
use mathlib.Core.Bool.{Bool, true, false, cond}
use mathlib.Core.List.{List, [], ◌∷◌, ◌++◌, append-nil, append_assoc}
use Prim.Native.Nat.{ℕ, ◌-◌, ◌^◌, ◌≤◌, ◌<◌}
use native.Mathlib.Omega.{arith}
use lib.ListN.{length, length-append}
use lib.Seq.{get_or-append_seam}
use Rattle.meaning.specs.Rule.{Node, Entry, entry_at, time_at, parameters, Rising, Climbs}
use Rattle.meaning.specs.Rewriting.{none, at, derived_rows}
use Rattle.meaning.specs.Words.{Known, first, feed, fed, after}
use Rattle.meaning.proofs.Blocks.{length_past_rows, first_of_fits}
use Rattle.meaning.proofs.Shapes.{first_shape, feed_shape}
use Rattle.meaning.proofs.Settling.{climbs_rising, last_after}
use Rattle.watcher.specs.Rules.{records_of}
use Rattle.watcher.specs.Records.{time_of, entry_of}
use Rattle.demands.specs.Watching.{Call, feeding, asking, closing}
use Rattle.demands.specs.Logs.{last_time, accepts, log_with, Course, going, over, further, further_by, log_in}
use Rattle.demands.specs.Rewritten.{read_rule, parameters_in}
use Rattle.demands.proofs.Padding.{entry_below}
use Rattle.demands.proofs.OwnStates.{Lawful}
use Rattle.demands.proofs.Judging.{Judged, taken, wrong, early, judge}

-- no signal past so many holds in any record of a log
abbrev pub Below : ℕ → List Entry → Type 0
Below c [] = Unit {0}
Below c (e ∷ es) = (e.signals < 2 ^ c) × Below c es

pub below_more : (c : ℕ) (log more : List Entry) → Below c log → Below c more → Below c (log ++ more)
below_more c [] more a b = b
below_more c (e ∷ es) more a b = (a.0, below_more c es more a.1 b)

-- more records
pub fed_more : (m : ℕ) (rule : List Node) (s : Known m) (es more : List Entry)
    → fed m rule s (es ++ more) ≡ fed m rule (fed m rule s es) more
unfolding fed
fed_more m rule s [] more = refl
fed_more m rule s (d ∷ es) more = fed_more m rule (feed m rule s d) es more

pub last_more : (log : List Entry) (e : Entry) → last_time (log ++ (e ∷ [])) ≡ e.time
unfolding last_time time_at entry_at
last_more log e =
    let q : length (log ++ (e ∷ [])) - 1 ≡ length log = omega (arith, length-append log (e ∷ [])) in
    ap (λ i. time_at (log ++ (e ∷ [])) i) q
    ∙ ap (λ (x : Entry). x.time) (get_or-append_seam log e [] (record { time = 0; signals = 0 }))

pub last_known : (m : ℕ) (rule : List Node) (e : Entry) (es : List Entry)
    → (after m rule e es).last.time ≡ last_time (e ∷ es)
unfolding last_time time_at
last_known m rule e es =
    let q : length es ≡ length (e ∷ es) - 1 = omega arith in
    ap (λ (x : Entry). x.time) (last_after m rule e es) ∙ ap (λ i. time_at (e ∷ es) i) q

module _ (rule signals : List ℕ) where
  first_lawful : (e : Entry) → e.signals < 2 ^ records_of signals
      → Lawful rule signals (first (parameters_in rule) (read_rule rule) e)
  unfolding first parameters_in parameters
  first_lawful e h =
      record {
        long = length_past_rows (parameters_in rule) (read_rule rule) [] e none (length (read_rule rule));
        shape = first_shape (read_rule rule) (parameters_in rule) (first_of_fits (read_rule rule)) e;
        below = h;
      }

  feed_lawful : (s : Known (parameters_in rule)) (e : Entry) → e.signals < 2 ^ records_of signals
      → Lawful rule signals (feed (parameters_in rule) (read_rule rule) s e)
  unfolding feed parameters_in parameters
  feed_lawful s e h =
      record {
        long =
            length_past_rows (parameters_in rule) (read_rule rule)
            (derived_rows (parameters_in rule) (read_rule rule) s.past s.last (at e.time)
            (length (read_rule rule)))
            e (at s.last.time) (length (read_rule rule));
        shape = feed_shape (read_rule rule) (parameters_in rule) (first_of_fits (read_rule rule)) s e;
        below = h;
      }

  -- what is known after a log is lawful
  pub after_lawful : (e : Entry) (es : List Entry) → Below (records_of signals) (e ∷ es)
      → Lawful rule signals (after (parameters_in rule) (read_rule rule) e es)
  unfolding after fed
  after_lawful e es b = go es (first (parameters_in rule) (read_rule rule) e) (first_lawful e b.0) b.1
    where
      go : (es : List Entry) (s : Known (parameters_in rule)) → Lawful rule signals s → Below (records_of signals) es
          → Lawful rule signals (fed (parameters_in rule) (read_rule rule) s es)
      go [] s ok b = ok
      go (e ∷ es) s ok b = go es (feed (parameters_in rule) (read_rule rule) s e) (feed_lawful s e b.0) b.1

-- the time of the last record of a log, after time t
abbrev last_from : ℕ → List Entry → ℕ
last_from t [] = t
last_from t (e ∷ es) = last_from e.time es

last_from_lem : (e : Entry) (es : List Entry) → last_from e.time es ≡ time_at (e ∷ es) (length es)
unfolding time_at entry_at
last_from_lem e [] = refl
last_from_lem e (d ∷ es) = last_from_lem d es

last_is : (log : List Entry) → last_from 0 log ≡ last_time log
unfolding last_time time_at entry_at
last_is [] = refl
last_is (e ∷ es) =
    let q : length es ≡ length (e ∷ es) - 1 = omega arith in last_from_lem e es ∙ ap (λ i. time_at (e ∷ es) i) q

climbs_more : (t : ℕ) (log more : List Entry) → Climbs t log → Climbs (last_from t log) more → Climbs t (log ++ more)
climbs_more t [] more c h = h
climbs_more t (d ∷ log) more c h = (c.0, climbs_more d.time log more c.1 h)

climbs_all : (log : List Entry) → Climbs 0 log → Rising log
climbs_all [] c = λ i j h l. let z : ⊥ = omega arith in absurd z
climbs_all (e ∷ es) c = climbs_rising e es c.1

-- a log as accepted records make it: signals stay within the list, and times never fall
pub record Right (signals : List ℕ) (log : List Entry) : Type 0 where
  pub below : Below (records_of signals) log
  pub climbs : Climbs 0 log

pub right_rising : (signals : List ℕ) (log : List Entry) → Right signals log → Rising log
right_rising signals log r = climbs_all log r.climbs

-- and so do they with more records whose times go on from the last
pub right_onward : (signals : List ℕ) (log more : List Entry) → Right signals log → Climbs (last_time log) more
    → Rising (log ++ more)
right_onward signals log more r c =
    climbs_all (log ++ more)
    (climbs_more 0 log more r.climbs (subst (λ t. Climbs t more) (sym (last_is log)) c))

pub right_none : (signals : List ℕ) → Right signals []
right_none signals = record { below = tt; climbs = tt }

pub right_more : (signals : List ℕ) (log : List Entry) (bytes : List ℕ) → Right signals log
    → last_time log ≤ time_of bytes → Right signals (log_with signals log bytes)
unfolding log_with entry_of
right_more signals log bytes r h =
    let e : Entry = entry_of signals (records_of signals) bytes in
    record {
      below =
          below_more (records_of signals) log (e ∷ []) r.below (entry_below signals (records_of signals) bytes, tt);
      climbs = climbs_more 0 log (e ∷ []) r.climbs (subst (λ t. t ≤ time_of bytes) (sym (last_is log)) h, tt);
    }

-- calls keep it so
pub right_further : (signals : List ℕ) (course : Course) (c : Call) → Right signals (log_in course)
    → Right signals (log_in (further signals course c))
unfolding further log_in
right_further signals (going log) (feeding bytes) r = go (judge log bytes)
  where
    go : Judged log bytes → Right signals (cond (accepts log bytes) (log_with signals log bytes) log)
    go (taken a w h) =
        subst (λ b. Right signals (cond b (log_with signals log bytes) log)) (sym a) (right_more signals log bytes r h)
    go (wrong a w) = subst (λ b. Right signals (cond b (log_with signals log bytes) log)) (sym a) r
    go (early a w h) = subst (λ b. Right signals (cond b (log_with signals log bytes) log)) (sym a) r
right_further signals (going log) asking r = r
right_further signals (going []) closing r = r
right_further signals (going (e ∷ es)) closing r = r
right_further signals (over e es) c r = r

pub right_taken : (signals : List ℕ) (log : List Entry) (bytes : List ℕ) → Right signals log → accepts log bytes ≡ true
    → Right signals (log_with signals log bytes)
unfolding further log_in
right_taken signals log bytes r a =
    subst (λ b. Right signals (cond b (log_with signals log bytes) log)) a
    (right_further signals (going log) (feeding bytes) r)

pub right_all : (signals : List ℕ) (course : Course) (calls : List Call) → Right signals (log_in course)
    → Right signals (log_in (further_by signals course calls))
unfolding further_by
right_all signals course [] r = r
right_all signals course (c ∷ more) r =
    right_all signals (further signals course c) more (right_further signals course c r)

-- calls one after another, in two parts
pub further_parts : (signals : List ℕ) (course : Course) (calls more : List Call)
    → further_by signals course (calls ++ more) ≡ further_by signals (further_by signals course calls) more
unfolding further_by
further_parts signals course [] more = refl
further_parts signals course (c ∷ calls) more = further_parts signals (further signals course c) calls more

-- calls only add to a log
further_one : (signals : List ℕ) (course : Course) (c : Call)
    → (more : List Entry) × (log_in (further signals course c) ≡ log_in course ++ more)
unfolding further log_in log_with
further_one signals (going log) (feeding bytes) = go (accepts log bytes)
  where
    go : (b : Bool) → (more : List Entry) × (cond b (log_with signals log bytes) log ≡ log ++ more)
    go true = (entry_of signals (records_of signals) bytes ∷ [], refl)
    go false = ([], sym (append-nil log))
further_one signals (going log) asking = ([], sym (append-nil log))
further_one signals (going []) closing = ([], refl)
further_one signals (going (e ∷ es)) closing = ([], sym (append-nil (e ∷ es)))
further_one signals (over e es) c = ([], sym (append-nil (e ∷ es)))

pub further_log : (signals : List ℕ) (course : Course) (calls : List Call)
    → (more : List Entry) × (log_in (further_by signals course calls) ≡ log_in course ++ more)
unfolding further_by
further_log signals course [] = ([], sym (append-nil (log_in course)))
further_log signals course (c ∷ calls) =
    let one = further_one signals course c in
    let all = further_log signals (further signals course c) calls in (
      one.0 ++ all.0,
      all.1 ∙ ap (λ log. log ++ all.0) one.1 ∙ append_assoc (log_in course) one.0 all.0,
    )
