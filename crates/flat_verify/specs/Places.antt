-- What the program's places stand for.
use Rattle.flat_verify.specs.declared.unchecked.StepIndex.{StepIndex as StepIndexWritten}
use Rattle.flat_discipline.specs.Discipline.{StepIndex}

abbrev pub place_of : StepIndexWritten → StepIndex
place_of p = record { function = p.function; place = p.place }
