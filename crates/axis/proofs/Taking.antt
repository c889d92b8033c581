-- A settings word, branch by branch: what is written, and the verdict, are those of the rule.
-- Assumes nothing.
use Rattle.std.specs.Prelude.{Err, Ok}
use Prim.Native.Nat.{ℕ, zero, suc, ◌+◌, ◌<◌, ◌≤◌}
use mathlib.Core.Path.{◌≡◌, refl, sym, ap, ap₂, ◌∙◌}
use mathlib.Core.Bool.{Bool, true, false}
use mathlib.Core.List.{List, [], ◌∷◌, ◌++◌}
use native.Mathlib.Omega.{arith}
use borrow.Author.Tests.{lt-ltb}
use lib.ListN.{take, drop}
use Rattle.settings.specs.declared.Settings.{Settings}
use Rattle.settings.specs.declared.Refusal.{Refusal}
use Rattle.settings.specs.declared.Refusal.TheVariants.{DriveActive}
use Rattle.settings.specs.Refusal.{Verdict}
use Rattle.layouts.specs.Layout.{size}
use Rattle.layouts.proofs.Sizes.{size-least}
use Rattle.states.specs.States.{live_of}
use Rattle.words.specs.Encode.{checksum_of}
use Rattle.words.specs.Decode.{settings_from, settings_of}
use Rattle.reader.specs.Pending.{Pending, Reading, Complete}
use Rattle.reader.specs.Read.{layout_in, kept, refused, stored, complete, judged, close_verdict, end_verdict, end_read, read_of}
use Rattle.reader.specs.Cases.{is_end}
use Rattle.rules.specs.Axis.{Axis, Worded, Set}
use Rattle.ticks.specs.Motion.{idled}
use Rattle.rules.specs.Word.{taken, word_of}
use Rattle.patterns.specs.Patterns.{word_at}
use Rattle.cells.specs.Lists.{cells_from, values_from}
use Rattle.cells.specs.Cells.{value_in, pending_in, motion_in, axis_in, motion_words, MotionKept}
use Rattle.cells.specs.Writes.{Pends, more, Emptied, InputsKept, first_values_in, values_in, TakenOver}
use Rattle.cells.proofs.Laws.{cells-past}
use Rattle.axis.specs.Calls.{Takes, WordCall, read_in, completed_in, Completes}

-- where all of motion is kept, so are its inputs
pub inputs-kept : (l m : List ℕ) → MotionKept l m → InputsKept l m
inputs-kept l m e =
    record {
      before = ap (take 3) e;
      after = ap (drop 4) e;
    }

-- a value that is due is one more
pub more-due : (p : Pending) (k x : ℕ) → k < 15 → k ≡ p.count → more p x ≡ kept p k x
more-due p k x b e = rw (e, lt-ltb p.count 15 (omega (arith, e, b)))

accepted-refused : {r : Refusal} → ◌≡◌ {A = Verdict} (Ok tt) (Err r) → ⊥
accepted-refused e = cc

-- other pending settings alone: the word's data is kept, or it is refused
pub kept_word : (l m : List ℕ) (ends : Bool) (p : Pending) → Pends l p m → Takes l ends (read_in l (stored p)) m (Ok tt)
kept_word l m ends p c =
    record {
      axis = c.axis;
      verdict = refl;
      inputs = inputs-kept l m c.motion;
      kept = λ n. (c.settings, c.motion);
      refused = λ r e. absurd (accepted-refused e);
    }

pub refused-word : (l m : List ℕ) (ends : Bool) (r : Refusal) → Emptied l m → Takes l ends (read_in l (refused r)) m (Err r)
refused-word l m ends r c =
    let p = c.pends in
    record {
      axis = p.axis;
      verdict = refl;
      inputs = inputs-kept l m p.motion;
      kept = λ n. (p.settings, p.motion);
      refused = λ q e. c.words;
    }

-- an end word that completes settings: refused while the drive is live, else they come into force
pub live_end : (l : List ℕ) (s : Settings) → live_of (motion_in l).state ≡ true → Completes l s l (Err DriveActive)
unfolding axis_in
live_end l s e = record { axis = rw e; verdict = rw e; inputs = record { before = refl; after = refl }; kept = λ n. refl }

-- settings of some values, but for what layouts carry in their own ways, which is theirs
abbrev refilled : Settings → List ℕ → Settings
refilled s d = settings_from s.offset s.lower s.upper s.option s.homing d

pub takeover-end : (l m : List ℕ) (s : Settings) → s ≡ refilled s (first_values_in l) → live_of (motion_in l).state ≡ false
    → TakenOver l s m → Completes l s m (Ok tt)
unfolding axis_in
takeover-end l m s q e c =
    let into : Settings → Axis = λ x. record { active = Set x; pending = pending_in l; motion = idled (motion_in l) } in
    record { axis = rw e (c.axis ∙ ap into (sym q)); verdict = rw e; inputs = c.motion; kept = λ n. absurd (n refl) }

-- once all have come, the values are the words themselves
values-come : (l : List ℕ) (k n : ℕ) → k + n ≤ (pending_in l).count → values_from k n (value_in l) ≡ cells_from (24 + k) n l
values-come l k zero h = refl
values-come l k (suc n) h =
    let here : value_in l k ≡ word_at l (24 + k) = rw (lt-ltb k (pending_in l).count (omega arith)) in
    let later : values_from (suc k) n (value_in l) ≡ cells_from (suc (24 + k)) n l =
    values-come l (suc k) n (omega arith) ∙ ap (λ (i : ℕ). cells_from i n l) (omega arith) in
    ap₂ (λ (x : ℕ) (t : List ℕ). x ∷ t) here later

-- in each layout kinds 0 to 13 have come where an end word is due
come : (l : List ℕ) → size (layout_in (pending_in l)) ≤ (pending_in l).count → (pending_in l).values ≡ values_in l
come l h = ap (λ (t : List ℕ). t ++ value_in l 14 ∷ []) (values-come l 0 14 (omega (arith, size-least (layout_in (pending_in l)), h)))

-- an end word that has emptied what was pending, with the settings and the verdict that the values came to
pub record Closed (l : List ℕ) (sum : ℕ) (s : Settings) (w : Verdict) (m : List ℕ) : Type 0 where
  pub due : size (layout_in (pending_in l)) ≤ (pending_in l).count
  pub settings : s ≡ settings_of (values_in l)
  pub verdict : w ≡ close_verdict s (checksum_of (values_in l)) sum
  pub emptied : Emptied l m

module _ {l : List ℕ} {sum : ℕ} {s : Settings} {w : Verdict} {m : List ℕ} (c : Closed l sum s w m) where
  ended : end_read (pending_in l) sum ≡ judged s w
  unfolding end_read end_verdict
  ended = rw (come l c.due, c.verdict, c.settings)

  -- emptied words leave the values
  pub rebuilt : s ≡ refilled s (first_values_in m)
  unfolding settings_of
  rebuilt =
      let e = c.settings in
      let same : first_values_in m ≡ first_values_in l = ap first_values_in c.emptied.words ∙ cells-past l 23 0 24 14 (omega arith) in
      e ∙ ap₂ refilled (sym e) (sym same)

  pub refused_end : (r : Refusal) → w ≡ Err r → Takes l true (read_in l (end_read (pending_in l) sum)) m (Err r)
  refused_end r q = rw (ended ∙ ap (judged s) q) (refused-word l m true r c.emptied)

  -- the settings come into force or not
  pub complete-end : (n : List ℕ) (v : Verdict) → w ≡ Ok tt → Completes m s n v → Takes l true (read_in l (end_read (pending_in l) sum)) n v
  complete-end n v a d =
      let p = c.emptied.pends in
      let x : completed_in m s ≡ read_in l (complete s) = ap (λ (b : Axis). taken b (Complete s)) p.axis in
      let i = inputs-kept l m p.motion in
      rw (ended ∙ ap (judged s) a)
      (record {
        axis = d.axis ∙ ap (λ (y : Worded). y.axis) x;
        verdict = d.verdict ∙ ap (λ (y : Worded). y.verdict) x;
        inputs = record { before = d.inputs.before ∙ i.before; after = d.inputs.after ∙ i.after };
        kept = λ q. let k = d.kept (λ a. q a refl) in (ap (λ (a : List ℕ). take 15 (drop 8 a)) k ∙ p.settings, ap motion_words k ∙ p.motion);
        refused = λ r q. d.kept (λ a. accepted-refused (sym a ∙ q)) ∙ c.emptied.words;
      })

-- the whole word is what its branch is
pub word-call : (l m : List ℕ) (w : ℕ) (v : Verdict) (g : Reading) (ends : Bool) → read_of (pending_in l) w ≡ g → is_end w ≡ ends
    → Takes l ends (read_in l g) m v → WordCall l w m v
unfolding word_of axis_in
word-call l m w v g ends e f c = rw (e, f) c
