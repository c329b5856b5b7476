use Rattle.program_run.proofs.lines.say_fault.Goals as goal

pub returns-in-ChainCount : goal.returns-in-ChainCount
returns-in-ChainCount g c = rw c.in-ChainCount.is c.put_number.ensures

pub returns-in-EmptyChain : goal.returns-in-EmptyChain
returns-in-EmptyChain g c = rw c.in-EmptyChain.is c.put_number-in-EmptyChain.ensures

pub returns-in-NoSuchQubit : goal.returns-in-NoSuchQubit
returns-in-NoSuchQubit g c = rw c.in-NoSuchQubit.is c.put_numbers.ensures

pub returns-in-Repeated : goal.returns-in-Repeated
returns-in-Repeated g c = rw c.in-Repeated.is c.put_number-in-Repeated.ensures

pub returns-in-Disconnected : goal.returns-in-Disconnected
returns-in-Disconnected g c = rw c.in-Disconnected.is c.put_numbers-in-Disconnected.ensures

pub returns-in-NoCoupler : goal.returns-in-NoCoupler
returns-in-NoCoupler g c = rw c.in-NoCoupler.is c.put_numbers-in-NoCoupler.ensures

pub returns-in-TooManyNodes : goal.returns-in-TooManyNodes
returns-in-TooManyNodes g c = rw c.in-TooManyNodes.is c.put_numbers-in-TooManyNodes.ensures
