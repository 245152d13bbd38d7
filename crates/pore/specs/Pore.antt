-- The pore pressure of one element of a record, by the rule that its result goes by.
use Rattle.std.specs.Prelude.{ℕ, ℤ, get_or, List}
use Rattle.rules.specs.Layer.{skeleton, burdens}
use Rattle.rules.specs.Record.{record_site, record_state}
use Rattle.rules.specs.Result.{heights_below, pore_pressure}
use Rattle.rules.specs.declared.record.Record.{Record}

-- of the element at an index, which counts from 0
unfoldable pub element_pore : Record → (index : ℕ) → ℤ
unfolding record_site record_state heights_below burdens pore_pressure
element_pore r index =
    let site = record_site r in
    let s = record_state r in
    let own : List ℕ → ℕ = λ numbers. get_or numbers index 0 in
    pore_pressure (skeleton site) site.top_level s.load (own (heights_below 0 site.solids s.water))
    (own (burdens site.gravity site.solids)) (own site.solids) (own s.water)
