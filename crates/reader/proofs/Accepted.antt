-- How a word is accepted: it begins afresh, it is the one due, or it closes the settings.
-- Assumes nothing.
use Rattle.std.specs.Prelude.{Err, Ok}
use Prim.Native.Nat.{ℕ, ◌<◌, ◌≤◌}
use mathlib.Core.Path.{◌≡◌, refl, sym, ◌∙◌, subst}
use mathlib.Core.Bool.{Bool, true, false, cond}
use native.Mathlib.Omega.{arith}
use borrow.Author.Tests.{eqb-true, eqb-false}
use lib.Dec.{eqb}
use Rattle.settings.specs.declared.Refusal.{Refusal}
use Rattle.settings.specs.declared.Refusal.TheVariants.{OutOfSequence, UnknownLayout, OutOfRange, ChecksumMismatch}
use Rattle.settings.specs.Refusal.{Verdict}
use Rattle.settings.specs.declared.Settings.{Settings}
use Rattle.settings.proofs.Numbered.{not-zero}
use Rattle.layouts.specs.Layout.{is_layout, size}
use Rattle.checks.specs.Check.{limits_verdict}
use Rattle.words.specs.Word.{kind_of, data_of, packed}
use Rattle.words.specs.Encode.{checksum_of}
use Rattle.words.specs.Decode.{settings_of}
use Rattle.reader.specs.Pending.{Pending, Reading}
use Rattle.kinds.specs.Fields.{field_ok}
use Rattle.reader.specs.Read.{layout_in, due_kind, refused, stored, complete, started, kept, start_read, field_read, judged, end_verdict, end_read, read_of, outcome_number}
use Rattle.reader.proofs.Steps.{read-start, read_out, read-end, read-field, due-field, due-end}

pub data AcceptedBy (p : Pending) (w : ℕ) : Type 0 where
  begins : w ≡ data_of w → is_layout (data_of w) ≡ true → read_of p w ≡ stored (started (data_of w)) → AcceptedBy p w
  keeps : kind_of w ≡ p.count → p.count < size (layout_in p) → (kind_of w ≡ 0 → ⊥) → field_ok (layout_in p) (kind_of w) (data_of w) ≡ true
      → read_of p w ≡ stored (kept p (kind_of w) (data_of w)) → AcceptedBy p w
  closes : size (layout_in p) ≤ p.count → w ≡ packed 15 (checksum_of p.values) → limits_verdict (settings_of p.values) ≡ Ok tt
      → read_of p w ≡ complete (settings_of p.values) → AcceptedBy p w

-- how a word is read: it is refused, or accepted
pub data ReadBy (p : Pending) (w : ℕ) : Type 0 where
  refuses : (r : Refusal) → read_of p w ≡ refused r → ReadBy p w
  accepted : AcceptedBy p w → ReadBy p w

-- the number of a reading
abbrev numbered : Reading → ℕ
numbered r = outcome_number r.outcome

not-refused : {X : Type 0} (p : Pending) (w : ℕ) (r : Refusal) → read_of p w ≡ refused r → numbered (read_of p w) ≡ 0 → X
not-refused p w r e z = absurd (not-zero r (subst (λ (a : Reading). numbered a ≡ 0) e z))

module _ (p : Pending) (w : ℕ) where
  abbrev s : Settings
  s = settings_of p.values

  start : kind_of w ≡ 0 → ReadBy p w
  unfolding start_read
  start k = go (is_layout (data_of w)) refl (read-start p w k)
    where
      go : (a : Bool) → is_layout (data_of w) ≡ a → read_of p w ≡ cond a (stored (started (data_of w))) (refused UnknownLayout) → ReadBy p w
      go true h e = accepted (begins (omega arith) h e)
      go false h e = refuses UnknownLayout e

  field : kind_of w ≡ due_kind p → (kind_of w ≡ 0 → ⊥) → (kind_of w ≡ 15 → ⊥) → ReadBy p w
  unfolding field_read
  field d n f = go (field_ok (layout_in p) (kind_of w) (data_of w)) refl (read-field p w d n f)
    where
      go : (a : Bool) → field_ok (layout_in p) (kind_of w) (data_of w) ≡ a → read_of p w ≡ cond a (stored (kept p (kind_of w) (data_of w))) (refused OutOfRange) → ReadBy p w
      go true h e = let k = due-field p (kind_of w) d f in accepted (keeps k.0 k.1 n h e)
      go false h e = refuses OutOfRange e

  end : kind_of w ≡ due_kind p → kind_of w ≡ 15 → ReadBy p w
  unfolding end_read end_verdict
  end d k = go (eqb (data_of w) (checksum_of p.values)) refl (limits_verdict s) refl (read-end p w d k)
    where
      go : (a : Bool) → eqb (data_of w) (checksum_of p.values) ≡ a → (v : Verdict) → limits_verdict s ≡ v
          → read_of p w ≡ judged s (cond a v (Err ChecksumMismatch)) → ReadBy p w
      go true h (Ok tt) l e = accepted (closes (due-end p (sym d ∙ k)) (omega (arith, eqb-true (data_of w) (checksum_of p.values) h)) l e)
      go true h (Err r) l e = refuses r e
      go false h v l e = refuses ChecksumMismatch e

  pub read_by : ReadBy p w
  read_by = go (eqb (kind_of w) 0) refl (eqb (kind_of w) (due_kind p)) refl (eqb (kind_of w) 15) refl
    where
      go : (a : Bool) → eqb (kind_of w) 0 ≡ a → (b : Bool) → eqb (kind_of w) (due_kind p) ≡ b → (c : Bool) → eqb (kind_of w) 15 ≡ c → ReadBy p w
      go true h b i c j = start (eqb-true (kind_of w) 0 h)
      go false h true i true j = end (eqb-true (kind_of w) (due_kind p) i) (eqb-true (kind_of w) 15 j)
      go false h true i false j = field (eqb-true (kind_of w) (due_kind p) i) (eqb-false (kind_of w) 0 h) (eqb-false (kind_of w) 15 j)
      go false h false i c j = refuses OutOfSequence (read_out p w (eqb-false (kind_of w) 0 h) (eqb-false (kind_of w) (due_kind p) i))

pub accepted-by : (p : Pending) (w : ℕ) → numbered (read_of p w) ≡ 0 → AcceptedBy p w
accepted-by p w z = go (read_by p w)
  where
    go : ReadBy p w → AcceptedBy p w
    go (refuses r e) = not-refused p w r e z
    go (accepted a) = a
