-- What stands where a job is refused is no layer: cause 11 holds of every call on it.
use mathlib.Core.Bool.{false}
use mathlib.Core.Path.{◌≡◌, refl}
use Rattle.rules.specs.Opening.{blank_record}
use Rattle.rules.specs.Record.{is_layer}

pub blank_no_layer : is_layer blank_record ≡ false
unfolding is_layer blank_record
blank_no_layer = refl
