use Rattle.actions.specs.Reading.{action_of}
use Rattle.actions.specs.ReadLaws.{kept_is}
use Rattle.actions.proofs.row_action.Goals as goal

pub returns-in-1 : goal.returns-in-1
unfolding action_of
returns-in-1 c = kept_is c.args.nums 1 c.in-1.is

pub returns-in-2 : goal.returns-in-2
unfolding action_of
returns-in-2 c = kept_is c.args.nums 2 c.in-2.is

pub returns-in-3 : goal.returns-in-3
unfolding action_of
returns-in-3 c = kept_is c.args.nums 3 c.in-3.is

pub returns-in-4 : goal.returns-in-4
unfolding action_of
returns-in-4 c = kept_is c.args.nums 4 c.in-4.is

pub returns-in-5 : goal.returns-in-5
unfolding action_of
returns-in-5 c = kept_is c.args.nums 5 c.in-5.is

pub returns-in-6 : goal.returns-in-6
unfolding action_of
returns-in-6 c = kept_is c.args.nums 6 c.in-6.is

pub returns-in-7 : goal.returns-in-7
unfolding action_of
returns-in-7 c = kept_is c.args.nums 7 c.in-7.is

pub returns-in-8 : goal.returns-in-8
unfolding action_of
returns-in-8 c = kept_is c.args.nums 8 c.in-8.is

pub returns-in-9 : goal.returns-in-9
unfolding action_of
returns-in-9 c = kept_is c.args.nums 9 c.in-9.is

pub returns-in-10 : goal.returns-in-10
unfolding action_of
returns-in-10 c = kept_is c.args.nums 10 c.in-10.is

pub returns-in-11 : goal.returns-in-11
unfolding action_of
returns-in-11 c = kept_is c.args.nums 11 c.in-11.is

pub returns-in-12 : goal.returns-in-12
unfolding action_of
returns-in-12 c = kept_is c.args.nums 12 c.in-12.is

pub returns-in-13 : goal.returns-in-13
unfolding action_of
returns-in-13 c = kept_is c.args.nums 13 c.in-13.is
