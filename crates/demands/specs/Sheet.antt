-- 01, "Rehearsed examples": sheet S, its fifteen words, in layout 1, and the settings that they carry, with the maximum as homing torque.
-- Assumes nothing.
use Rattle.std.specs.Prelude.{ℕ, List, [], ◌∷◌, map, pos, negsuc, take, set}
use Rattle.settings.specs.declared.Settings.{Settings}
use Rattle.words.specs.Word.{data_of}
use Rattle.words.specs.Encode.{sealed}

unfoldable pub words_S : List ℕ
words_S =
    0x00000001 ∷ 0x10000017 ∷ 0x20004E20 ∷ 0x300003E8 ∷ 0x40000000 ∷ 0x50000003 ∷ 0x60000002 ∷ 0x7FFFFC18 ∷ 0x800003E8 ∷ 0x900003E8
    ∷ 0xA0960320 ∷ 0xB04B012C ∷ 0xC0000002 ∷ 0xD00007D0 ∷ 0xF0E1622B ∷ []

unfoldable pub settings_S : Settings
settings_S =
    record {
      method = 23;
      fast = 20000;
      slow = 1000;
      offset = pos 0;
      numerator = 3;
      denominator = 2;
      lower = negsuc 999;
      upper = pos 1000;
      maximum = 1000;
      positive1 = 800;
      negative1 = 600;
      positive2 = 300;
      negative2 = 300;
      option = 2;
      rated = 2000;
      homing = 1000;
    }

-- S with other data of some kinds, and the sum that goes with it
abbrev changed : List (ℕ × ℕ) → List ℕ → List ℕ
changed [] values = values
changed (c ∷ cs) values = changed cs (set values c.0 c.1)

abbrev pub data_with : List (ℕ × ℕ) → List ℕ
data_with changes = changed changes (map data_of (take 14 words_S))

abbrev pub S_with : List (ℕ × ℕ) → List ℕ
S_with changes = sealed (data_with changes)
