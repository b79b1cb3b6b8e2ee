-- The worked example (rule 14.2): its figures and the whole of its output.
use Rattle.std.specs.Prelude.{◌≡◌, refl, pos}
use Rattle.text.specs.Bytes.{bytes}
use Rattle.text.specs.Decimal.{dec}
use Rattle.figures.specs.declared.Figures.{Figures}
use Rattle.sheet_text.specs.Sheet.{text_of, schema, values_of}

abbrev worked : Figures
worked = record {
  «intervals» = 1;
  «devices» = 1;
  «counted» = 1;
  «replaced» = 0;
  «excluded» = 0;
  methane_l = 3000000;
  destroyed_l = 2985000;
  uncombusted_l = 15000;
  baseline_mg = 42021000000;
  co2_mg = 5475236250;
  uncombusted_mg = 210105000;
  fuel_mg = 700000000;
  reduction_mg = pos 35635658750;
  «tonnes» = pos 35;
  «credits» = 35;
}

worked_is : text_of worked ≡ bytes
    "intervals=1\ndevices=1\ncounted=1\nreplaced=0\nexcluded=0\nmethane_l=3000000\ndestroyed_l=2985000\nuncombusted_l=15000\nbaseline_mg=42021000000\nco2_mg=5475236250\nuncombusted_mg=210105000\nfuel_mg=700000000\nreduction_mg=35635658750\ntonnes=35\ncredits=35\n"
unfolding text_of schema values_of dec
worked_is = refl
