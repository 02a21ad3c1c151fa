-- What is good, as the code sums it up.
use Rattle.mime_headers.proofs.Common.{Bool, false, refl, true, ◌&&◌, ◌≡◌}

-- What is good stays so.
pub stays : (good : Bool) → good ≡ (good && true)
stays true = refl
stays false = refl
