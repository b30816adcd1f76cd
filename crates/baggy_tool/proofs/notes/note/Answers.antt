use Rattle.std.proofs.Common.{ap}
use Rattle.baggy_tool.specs.Endings.{line_of}
use Rattle.baggy_tool.proofs.Noting.{noted_same}
use Rattle.baggy_tool.proofs.notes.note.Goals as goal

pub returns-in-Usage-clause-noted : goal.returns-in-Usage-clause-noted
returns-in-Usage-clause-noted g c = noted_same _ _ _ _ _ (ap line_of c.in-Usage.is) c.put-in-Usage.ensures.noted

pub returns-in-NoFile-clause-noted : goal.returns-in-NoFile-clause-noted
returns-in-NoFile-clause-noted g c = noted_same _ _ _ _ _ (ap line_of c.in-NoFile.is) c.put-in-NoFile.ensures.noted

pub returns-in-FileFault-clause-noted : goal.returns-in-FileFault-clause-noted
returns-in-FileFault-clause-noted g c = noted_same _ _ _ _ _ (ap line_of c.in-FileFault.is) c.put-in-FileFault.ensures.noted

pub returns-in-ReadFault-clause-noted : goal.returns-in-ReadFault-clause-noted
returns-in-ReadFault-clause-noted g c = noted_same _ _ _ _ _ (ap line_of c.in-ReadFault.is) c.put-in-ReadFault.ensures.noted

pub returns-in-WriteFault-clause-noted : goal.returns-in-WriteFault-clause-noted
returns-in-WriteFault-clause-noted g c = noted_same _ _ _ _ _ (ap line_of c.in-WriteFault.is) c.put-in-WriteFault.ensures.noted

pub returns-in-NoMemory-clause-noted : goal.returns-in-NoMemory-clause-noted
returns-in-NoMemory-clause-noted g c = noted_same _ _ _ _ _ (ap line_of c.in-NoMemory.is) c.put-in-NoMemory.ensures.noted
