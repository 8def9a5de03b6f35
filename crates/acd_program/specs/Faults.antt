-- Why a command did not do what it was asked, by why its parts didn't.
use Rattle.acd_files.specs.declared.fault.LookFault.{LookFault}
use Rattle.acd_files.specs.declared.fault.OpeningFault.TheVariants.{Look}
use Rattle.acd_program.specs.declared.fault.Fault.{Fault}
use Rattle.acd_program.specs.declared.fault.Fault.TheVariants.{Opening}

-- of a command, by why no file was opened
abbrev pub of_look : LookFault → Fault
of_look why = Opening (Look why)
