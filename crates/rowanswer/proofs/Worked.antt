-- What specs/Worked.antt states, by computing. Assumes nothing.
use mathlib.Core.Path.{refl}
use Rattle.digits.specs.Numbers.{decimal_text, count_in, hex_text, digits_in}
use Rattle.lines.specs.Lines.{texts}
use Rattle.rowinput.specs.Input.{row_text}
use Rattle.rowoutput.specs.Output.{ask_text, answers_text, jam_text}
use Rattle.rowanswer.specs.Worked.{TextsWorked, NumbersWorked}

pub texts_worked : TextsWorked
unfolding row_text answers_text ask_text texts hex_text decimal_text digits_in count_in
texts_worked = (refl, refl)

pub numbers_worked : NumbersWorked
unfolding jam_text hex_text decimal_text digits_in count_in
numbers_worked = (refl, refl, refl, refl, refl, refl)
