-- The tests of a curve's points, one point and one segment at a time.
use Rattle.std.specs.Prelude.{leb, ltb, Bool, ◌&&◌}
use Rattle.rules.specs.Curve.{Point}
use Rattle.quantities.specs.Quantities.{within}
use Rattle.quantities.specs.declared.quantity.Limits.{Limits}
use Rattle.points.specs.declared.checks.Trend.{Trend}
use Rattle.points.specs.declared.checks.Trend.TheVariants.{Falls, Rises, Later}

-- a point whose abscissa and ordinate keep the limits of their kinds
abbrev pub point_within : (abscissa ordinate : Limits) → Point → Bool
point_within abscissa ordinate p = within abscissa p.abscissa && within ordinate p.ordinate

-- a segment of the compressibility curve, of the conductivity curve, and of the load table
unfoldable pub follows : Trend → Point → Point → Bool
follows Falls a b = ltb a.ordinate b.ordinate && ltb b.abscissa a.abscissa
follows Rises a b = ltb a.abscissa b.abscissa && leb a.ordinate b.ordinate
follows Later a b = ltb a.abscissa b.abscissa
