-- Signals are read by their tests: one answer, none where there is no reading, and exact speeds.
-- Assumes nothing.
use mathlib.Core.Path.{◌≡◌, refl, sym, ap, ap₂, ◌∙◌}
use mathlib.Core.Bool.{Bool, true, false, not, ◌&&◌, cond, true≢false}
use mathlib.Core.Logic.{◌⊎◌, inl, inr, ⊎_elim}
use mathlib.Core.List.{List}
use Prim.Native.Nat.{ℕ, zero, suc, ◌+◌, ◌-◌, ◌≤◌, ◌<◌}
use native.Mathlib.Omega.{arith}
use lib.Dec.{eqb, leb, ltb}
use lib.IntN.{ℤ, pos, negsuc}
use lib.Signed.{le_z}
use lib.ListN.{length, get_or}
use mir.Val.{sel}
use borrow.Author.Tests.{eq-eqb, ne_eqb, eqb-true, eqb-false, not-false}
use Rattle.ground.specs.Bytes.{little}
use Rattle.ground.proofs.Folds.{fold_cong}
use Rattle.meaning.specs.Rule.{holds}
use Rattle.rewriting.specs.Decode.{byte_of}
use Rattle.watcher.specs.declared.readings.Tested.{Tested}
use Rattle.watcher.specs.declared.readings.Tested.TheVariants.{Holds, DoesNotHold, NoReading}
use Rattle.watcher.specs.Signals.{limit_of}
use Rattle.watcher.specs.Records.{wrong_record, temperature_of, wind_of, meets, has_reading, answered, test_by, lacks}
use Rattle.watcher.specs.Records.{test_of, is_holding, entry_of}
use Rattle.watcher.proofs.Channels.{channel_air, channel_wind, channel_lee, channel_windward, channel_rain}
use Rattle.watcher.proofs.Tests.{reads_air, reads_wind, reads_other, test_none, lacks_or}
use Rattle.watcher.proofs.Tests.{test_lacking, test_here, word_bit}
use Rattle.watcher.proofs.Speed.{wind_exact}
use Rattle.demands.specs.Signals.{Listed, Blind, asked, ExactlyOne, SignalsAreTested, WindIsExact}

-- an answer is one of the three, and no two are the same
number : Tested → ℕ
number Holds = 0
number DoesNotHold = 1
number NoReading = 2

apart : (t a b : Tested) → (number a ≡ number b → ⊥) → t ≡ a → t ≡ b → ⊥
apart t a b differ p q = differ (ap number (sym p ∙ q))

exactly_one : (t : Tested) → ExactlyOne (t ≡ Holds) (t ≡ DoesNotHold) (t ≡ NoReading)
unfolding number
exactly_one t =
    (which t, apart t _ _ (λ e. omega arith), apart t _ _ (λ e. omega arith), apart t _ _ (λ e. omega arith))
  where
    which : (t : Tested) → (t ≡ Holds) ⊎ (t ≡ DoesNotHold) ⊎ (t ≡ NoReading)
    which Holds = inl refl
    which DoesNotHold = inr (inl refl)
    which NoReading = inr (inr refl)

-- an answer to a reading is not that there is none
read_apart : (b : Bool) → answered b ≡ NoReading → ⊥
unfolding number
read_apart true e = apart Holds Holds NoReading (λ d. omega arith) refl e
read_apart false e = apart DoesNotHold DoesNotHold NoReading (λ d. omega arith) refl e

holding : (b : Bool) → is_holding (answered b) ≡ b
holding true = refl
holding false = refl

-- a temperature of 32767 is that number in the bytes
size : ℤ → ℕ
size (pos n) = n
size (negsuc n) = 0

air_number : (bytes : List ℕ) → temperature_of bytes ≡ pos 32767 → little bytes 4 2 ≡ 32767
unfolding temperature_of size
air_number bytes = go (ltb (little bytes 4 2) 32768)
  where
    go : (b : Bool) → sel b (pos (little bytes 4 2)) (negsuc (65536 - suc (little bytes 4 2))) ≡ pos 32767
        → little bytes 4 2 ≡ 32767
    go true p = ap size p
    go false p = let e : ◌≡◌ {A = ℕ} 0 32767 = ap size p in (let z : ⊥ = omega arith in absurd z)

number_air : (bytes : List ℕ) → little bytes 4 2 ≡ 32767 → temperature_of bytes ≡ pos 32767
unfolding temperature_of
number_air bytes e = rw e

-- no reading, by the channel and its number
module _ (list : List ℕ) (n : ℕ) (bytes : List ℕ) where
  abbrev channel : ℕ
  channel = byte_of list n 0

  blind_none : Blind list n bytes → has_reading bytes channel ≡ false
  unfolding wind_of
  blind_none (inl (c, t)) = sym (reads_air bytes _ c) ∙ ap not (eq-eqb _ _ (air_number bytes t))
  blind_none (inr (c, w)) = sym (reads_wind bytes _ c) ∙ ap not (eq-eqb _ _ w)

  none_blind : has_reading bytes channel ≡ false → Blind list n bytes
  unfolding wind_of
  none_blind r = go (eqb channel 1) (eqb channel 2) refl refl
    where
      marked : (x mark : ℕ) → not (eqb x mark) ≡ false → x ≡ mark
      marked x mark e = eqb-true x mark (not-false (eqb x mark) e)

      go : (a b : Bool) → eqb channel 1 ≡ a → eqb channel 2 ≡ b → Blind list n bytes
      go true b p q =
          let c = eqb-true channel 1 p in
          inl (c, number_air bytes (marked (little bytes 4 2) 32767 (reads_air bytes _ c ∙ r)))
      go false true p q =
          let c = eqb-true channel 2 q in
          inr (c, marked (little bytes 6 2) 65535 (reads_wind bytes _ c ∙ r))
      go false false p q =
          absurd (true≢false (reads_other bytes _ (eqb-false channel 1 p) (eqb-false channel 2 q) ∙ r))

-- signal n of a list, without a reading and with one
module _ (list : List ℕ) (count : ℕ) (bytes : List ℕ) (n : ℕ) (here : Listed list count n) where
  tested_by : test_by bytes (byte_of list n 0) (byte_of list n 1) (limit_of list n) ≡ test_of list count bytes n
  tested_by = test_here list count bytes n here.counted here.written here.fits

  tested_blind : Blind list n bytes → test_of list count bytes n ≡ NoReading
  tested_blind b = sym (test_none bytes _ _ _ (blind_none list n bytes b) ∙ tested_by)

  has : (Blind list n bytes → ⊥) → has_reading bytes (byte_of list n 0) ≡ true
  has s = go (has_reading bytes (byte_of list n 0)) refl
    where
      go : (b : Bool) → has_reading bytes (byte_of list n 0) ≡ b → b ≡ true
      go true e = refl
      go false e = absurd (s (none_blind list n bytes e))

  met : Bool
  met = meets bytes (byte_of list n 0) (limit_of list n)

  tested_read : has_reading bytes (byte_of list n 0) ≡ true → test_of list count bytes n ≡ asked list n met
  unfolding test_by met
  tested_read r = sym tested_by ∙ ap (λ b. cond b (asked list n met) NoReading) r

  tested_as : (b : Bool) → (Blind list n bytes → ⊥) → b ≡ meets bytes (byte_of list n 0) (limit_of list n)
      → test_of list count bytes n ≡ asked list n b
  unfolding met
  tested_as b s e = tested_read (has s) ∙ ap (asked list n) (sym e)

  none_told : test_of list count bytes n ≡ NoReading → Blind list n bytes
  none_told e = go (has_reading bytes (byte_of list n 0)) refl
    where
      go : (b : Bool) → has_reading bytes (byte_of list n 0) ≡ b → Blind list n bytes
      go true r = absurd (read_apart (cond (eqb (byte_of list n 1) 0) met (not met)) (sym (tested_read r) ∙ e))
      go false r = none_blind list n bytes r

  -- what the word has of a signal with a reading
  seen_least : (Blind list n bytes → ⊥) → byte_of list n 1 ≡ 0 → is_holding (test_of list count bytes n) ≡ met
  seen_least s a =
      ap is_holding
      (tested_read (has s) ∙ ap (λ b. answered (cond b met (not met))) (eq-eqb (byte_of list n 1) 0 a))
      ∙ holding met

  seen_below : (Blind list n bytes → ⊥) → byte_of list n 1 ≡ 1 → is_holding (test_of list count bytes n) ≡ not met
  seen_below s a =
      ap is_holding
      (tested_read (has s)
      ∙ ap (λ b. answered (cond b met (not met)))
      (ne_eqb (byte_of list n 1) 0 (λ e. let z : ⊥ = omega arith in z)))
      ∙ holding (not met)

-- signals of one channel are blind together
blind_both : (list bytes : List ℕ) (i j : ℕ) → byte_of list i 0 ≡ byte_of list j 0
    → Blind list i bytes → Blind list j bytes
blind_both list bytes i j e (inl (c, t)) = inl (sym e ∙ c, t)
blind_both list bytes i j e (inr (c, w)) = inr (sym e ∙ c, w)

-- a signal that is not listed is lacking
missing : (list : List ℕ) (count n : ℕ) → (Listed list count n → ⊥) → lacks list count n ≡ true
missing list count n s =
    ⊎_elim (λ l. l) (λ h. absurd (s (record { counted = h.0; written = h.1; fits = h.2 }))) (lacks_or list count n)

-- who is not blind, and what a vent or the rain is compared with
module _ (list : List ℕ) (n : ℕ) (bytes : List ℕ) where
  not_marked : byte_of list n 0 ≡ 1 → (temperature_of bytes ≡ pos 32767 → ⊥) → Blind list n bytes → ⊥
  not_marked air s (inl (c, t)) = s t
  not_marked air s (inr (c, w)) = omega arith

  never_blind : (i : ℕ) → byte_of list n 0 ≡ 3 + i → Blind list n bytes → ⊥
  never_blind i other (inl (c, t)) = omega arith
  never_blind i other (inr (c, w)) = omega arith

  other_met : (i : ℕ) → i < 3 → byte_of list n 0 ≡ 3 + i
      → le_z (limit_of list n) (pos (get_or bytes (8 + i) 0)) ≡ meets bytes (byte_of list n 0) (limit_of list n)
  other_met zero h other = channel_lee bytes _ _ other
  other_met (suc zero) h other = channel_windward bytes _ _ other
  other_met (suc (suc zero)) h other =
      channel_rain bytes _ _ (λ e. omega arith) (λ e. omega arith) (λ e. omega arith) (λ e. omega arith)
  other_met (suc (suc (suc i))) h other = let z : ⊥ = omega arith in absurd z

-- a record is laid out right or wrong by its length and what stands from byte 8 on
taken_alike : (bytes others : List ℕ) → length bytes ≡ length others
    → ((i : ℕ) → 8 ≤ i → get_or bytes i 0 ≡ get_or others i 0) → wrong_record bytes ≡ wrong_record others
unfolding wrong_record
taken_alike bytes others l same =
    rw (l, same 8 (omega arith), same 9 (omega arith), same 10 (omega arith), same 11 (omega arith))
    (ap (λ b. not (eqb (length others) 16 && leb (get_or others 8 0) 100 && leb (get_or others 9 0) 100
    && leb (get_or others 10 0) 1 && leb (get_or others 11 0) 1 && b))
    (fold_cong ◌&&◌ true 4 _ _ (λ i h. ap (λ x. eqb x 0) (same (12 + i) (omega arith)))))

pub signals_are_tested : SignalsAreTested
unfolding holds entry_of met temperature_of
signals_are_tested =
    record {
      taken = taken_alike;
      seen = word_bit;
      one = λ list count bytes n. exactly_one (test_of list count bytes n);
      lacks = λ list count bytes n s. sym (test_lacking list count bytes n (missing list count n s));
      blind =
          λ list count bytes n here. (none_told list count bytes n here, tested_blind list count bytes n here);
      air =
          λ list count bytes n here air s.
          tested_as list count bytes n here _ (not_marked list n bytes air s)
          (channel_air bytes (byte_of list n 0) (limit_of list n) air);
      others =
          λ list count bytes n i here h other.
          tested_as list count bytes n here _ (never_blind list n bytes i other) (other_met list n bytes i h other);
      opposite =
          λ list count bytes i j o s.
          word_bit list count bytes j
          ∙ seen_below list count bytes j o.second (λ b. s (blind_both list bytes j i (sym o.channels) b))
          o.asks_below
          ∙ ap not
          (ap₂ (meets bytes) (sym o.channels) (sym o.limits)
          ∙ sym (word_bit list count bytes i ∙ seen_least list count bytes i o.first s o.asks_least));
      neither =
          λ list count bytes i j o b. (
            word_bit list count bytes i ∙ ap is_holding (tested_blind list count bytes i o.first b),
            word_bit list count bytes j
                ∙ ap is_holding
                (tested_blind list count bytes j o.second (blind_both list bytes i j o.channels b)),
          );
    }

pub wind_is_exact : WindIsExact
wind_is_exact list count bytes n here wind s =
    tested_as list count bytes n here _ not_blind
    (sym (wind_exact bytes (limit_of list n)) ∙ channel_wind bytes (byte_of list n 0) (limit_of list n) wind)
  where
    not_blind : Blind list n bytes → ⊥
    not_blind (inl (c, t)) = omega arith
    not_blind (inr (c, w)) = s w
