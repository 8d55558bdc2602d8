-- A row of parcels, as its parcels.
use Rattle.std.specs.Prelude.{ℕ, List}
use Rattle.id_flight.specs.declared.parcel.Parcel.{Parcel}

-- the parcels, in order, and for how many more there is room at the end
pub record RowView : Type 0 where
  pub items : List Parcel
  pub room : ℕ
