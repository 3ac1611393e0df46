use Rattle.scales.specs.Grades.{Printing, Different}
use Rattle.scales.proofs.grade.Grade.new.Given as goal

abbrev pub invariant-loop-i : goal.invariant-loop-i
invariant-loop-i l = Printing l.list l.i × Different l.list l.i
