use Rattle.std.proofs.Common.{◌≡◌, decimal}
use Rattle.program_run.proofs.lines.say.Goals as goal

pub returns-in-Usage-clause-said : goal.returns-in-Usage-clause-said
returns-in-Usage-clause-said g c =
    let printed : c.as_bytes-position.result.now ≡ decimal c.in-Usage.position = cc in
    rw (c.in-Usage.is, ← printed) c.put.ensures

pub returns-in-ReadFault-clause-said : goal.returns-in-ReadFault-clause-said
returns-in-ReadFault-clause-said g c =
    rw (c.in-ReadFault.is, ← c.as_bytes-name.ensures.value) c.put-in-ReadFault.ensures

pub returns-in-WriteFault-clause-said : goal.returns-in-WriteFault-clause-said
returns-in-WriteFault-clause-said g c = rw c.in-WriteFault.is c.put-in-WriteFault.ensures

pub returns-in-NoMemory-clause-said : goal.returns-in-NoMemory-clause-said
returns-in-NoMemory-clause-said g c = rw c.in-NoMemory.is c.put-in-NoMemory.ensures

pub returns-in-TooWide-clause-said : goal.returns-in-TooWide-clause-said
returns-in-TooWide-clause-said g c = rw c.in-TooWide.is c.say_wide.ensures

pub returns-in-NotProved-clause-said : goal.returns-in-NotProved-clause-said
returns-in-NotProved-clause-said g c = rw c.in-NotProved.is c.say_unproved.ensures
