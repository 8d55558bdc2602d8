-- Places of a text that were found before.
use Rattle.std.specs.Prelude.{◌≡◌, ℕ, ◌+◌, ◌≤◌, List, length}
use Rattle.id_text.specs.Places.{line_of, column_of}
use Rattle.id_sink.specs.declared.cursor.Series.{Series}
use Rattle.id_sink.specs.declared.cursor.Spot.{Spot}

-- the spot is a place of the text with its line and column
pub record IsSpot (text : List ℕ) (s : Spot) : Type 0 where
  pub inside : s.at ≤ length text
  pub line : s.line ≡ line_of text s.at
  pub column : s.column ≡ column_of text s.at
  pub line_fits : s.line ≤ s.at + 1
  pub column_fits : s.column ≤ s.at + 1

-- both spots of the series are places of the text
pub record IsSeries (text : List ℕ) (s : Series) : Type 0 where
  pub last : IsSpot text s.last
  pub back : IsSpot text s.back

-- the series are of places of the text
pub record IsCursor (text : List ℕ) (s t u v : Series) : Type 0 where
  pub step : IsSeries text s
  pub place : IsSeries text t
  pub other_step : IsSeries text u
  pub other_place : IsSeries text v
