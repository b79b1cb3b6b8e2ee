-- The sheet's figures, the two signed ones within 64 bits.
use mir.Syntax.{w64}
use mir.Facts.{to_z-of_z}
use mathlib.Core.Path.{◌∙◌}
use Rattle.accounts.proofs.Sheets.{sheet_of}
use Rattle.accounts.proofs.sheet.Goals as goal

pub returns : goal.returns
returns c =
    sheet_of _ _ _ _ _ _ _ (to_z-of_z {w = w64} (record { sfits = c.reduction.type_inv }) ∙ c.reduction.ensures)
    (to_z-of_z {w = w64} (record { sfits = c.tonnes-tonnes.type_inv }) ∙ c.tonnes-tonnes.ensures) c.credits.ensures
