-- The reader gives the number of the first case that holds.
-- Assumes nothing.
use Rattle.std.specs.Prelude.{Err, Ok}
use Prim.Native.Nat.{ℕ}
use mathlib.Core.Path.{◌≡◌, refl, ◌∙◌}
use mathlib.Core.Bool.{Bool, true, false, cond, not, ◌&&◌}
use native.Mathlib.Omega.{arith}
use borrow.Author.Tests.{eqb-true}
use lib.Dec.{eqb}
use Rattle.settings.specs.declared.Refusal.TheVariants.{OutOfSequence, UnknownLayout, OutOfRange, ChecksumMismatch}
use Rattle.settings.specs.declared.Settings.{Settings}
use Rattle.settings.specs.Refusal.{verdict_number, first_of, Verdict}
use Rattle.layouts.specs.Layout.{is_layout}
use Rattle.checks.specs.Check.{limits_verdict}
use Rattle.checks.specs.Cases as checks
use Rattle.checks.proofs.Numbers.{limits-number}
use Rattle.words.specs.Word.{kind_of, data_of}
use Rattle.words.specs.Encode.{checksum_of}
use Rattle.words.specs.Decode.{settings_of}
use Rattle.reader.specs.Pending.{Pending}
use Rattle.kinds.specs.Fields.{field_ok}
use Rattle.reader.specs.Read.{layout_in, refused, stored, started, kept, out_of_sequence, start_read, field_read, judged, end_verdict, end_read, read_of, outcome_number}
use Rattle.reader.specs.Cases.{is_start, is_end, tests_of, Numbers}

judged-number : (s : Settings) (v : Verdict) → outcome_number (judged s v).outcome ≡ verdict_number v
judged-number s (Ok tt) = refl
judged-number s (Err r) = refl

module _ (p : Pending) (w : ℕ) where
  abbrev s : Settings
  s = settings_of p.values

  end-number : outcome_number (end_read p (data_of w)).outcome ≡ cond (not (eqb (data_of w) (checksum_of p.values))) 4 (first_of (checks.limit_tests s))
  unfolding end_read end_verdict
  end-number = go (eqb (data_of w) (checksum_of p.values))
    where
      go : (a : Bool)
          → outcome_number (judged s (cond a (limits_verdict s) (Err ChecksumMismatch))).outcome ≡ cond (not a) 4 (first_of (checks.limit_tests s))
      go true = judged-number s (limits_verdict s) ∙ limits-number s
      go false = refl

  read_number : outcome_number (read_of p w).outcome ≡ first_of (tests_of p w)
  unfolding read_of start_read field_read
  read_number = go (out_of_sequence p w) (is_start w) refl (is_end w) refl
    where
      start : (a : Bool) → outcome_number (cond a (stored (started (data_of w))) (refused UnknownLayout)).outcome ≡ cond (not a) 2 0
      start true = refl
      start false = refl

      field : (a : Bool) → outcome_number (cond a (stored (kept p (kind_of w) (data_of w))) (refused OutOfRange)).outcome ≡ cond (not a) 3 0
      field true = refl
      field false = refl

      go : (o k : Bool) → is_start w ≡ k → (e : Bool) → is_end w ≡ e
          → outcome_number (cond o (refused OutOfSequence) (cond k (start_read (data_of w)) (cond e (end_read p (data_of w)) (field_read p (kind_of w) (data_of w))))).outcome
          ≡ cond o 1
          (cond (k && not (is_layout (data_of w))) 2
          (cond (not k && not e && not (field_ok (layout_in p) (kind_of w) (data_of w))) 3
          (cond (e && not (eqb (data_of w) (checksum_of p.values))) 4
          (cond (e && checks.limits_crossed s) 5
          (cond (e && checks.out_of_reach s) 6 0)))))
      go true k h e i = refl
      go false true h true i = absurd (omega (arith, eqb-true (kind_of w) 0 h, eqb-true (kind_of w) 15 i))
      go false true h false i = start (is_layout (data_of w))
      go false false h true i = end-number
      go false false h false i = field (field_ok (layout_in p) (kind_of w) (data_of w))

pub numbers : Numbers
numbers p w = read_number p w
