-- What a step has come to, of a node within it.
use Rattle.mega_rules.specs.Operations.{Now}
use Rattle.mega_step_work.specs.declared.work.Work.{Work}

abbrev pub work_of : Now → Work
work_of now = record { kept = now.kept; valid = now.valid; answers = now.answers; sends = now.sends }
