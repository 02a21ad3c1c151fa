-- What a byte reader keeps.
use Rattle.std.specs.Prelude.{◌≡◌, ℕ, ◌+◌, ◌≤◌, ◌<◌, ◌^◌, List, length, take}
use Rattle.mime_search.specs.Classes.{stops as stops_of}
use Rattle.mime_search.specs.declared.class.TheConstants.{TOKEN_STOPS}

-- a reader at a position in a text, whose first bytes are known: which of them aren't common token bytes
pub record IsReader (text : List ℕ) (at before known stops : ℕ) : Type 0 where
  pub within : at ≤ length text
  pub fits : before + length text < 2 ^ 128
  pub few : known ≤ 64
  pub there : known ≤ length text
  pub mask : stops ≡ stops_of TOKEN_STOPS (take known text)
