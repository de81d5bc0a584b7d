use mathlib.Core.Path.{sym, ◌∙◌}
use Rattle.decide.specs.Ways.{flag, vote_idle, vote_broken, vote_none, vote_low, vote_taken}
use Rattle.decide.proofs.Scalars.decide_vote.Goals as goal

pub returns-then-not-awaits_prepare : goal.returns-then-not-awaits_prepare
returns-then-not-awaits_prepare c = c.silent.ensures ∙ sym (vote_idle _ _ _ _ _ (flag c.awaits_prepare.ensures c.if-not-awaits_prepare.true))

pub returns-then-contradicts : goal.returns-then-contradicts
returns-then-contradicts c =
    sym (vote_broken _ _ _ _ _ (flag c.awaits_prepare.ensures c.if-not-awaits_prepare.false) (flag c.contradicts.ensures c.if-contradicts.true))

pub returns-then-not-voted : goal.returns-then-not-voted
returns-then-not-voted c =
    c.silent-then-not-voted.ensures
    ∙ sym (vote_none _ _ _ _ _ (flag c.awaits_prepare.ensures c.if-not-awaits_prepare.false) (flag c.contradicts.ensures c.if-contradicts.false) c.if-not-voted.true)

pub returns-then-v-s : goal.returns-then-v-s
returns-then-v-s c =
    c.silent-then-v-s.ensures
    ∙ sym (vote_low _ _ _ _ _ (flag c.awaits_prepare.ensures c.if-not-awaits_prepare.false) (flag c.contradicts.ensures c.if-contradicts.false) c.if-v-s.true)

pub returns : goal.returns
returns c =
    sym (vote_taken _ _ _ _ _ (flag c.awaits_prepare.ensures c.if-not-awaits_prepare.false) (flag c.contradicts.ensures c.if-contradicts.false) _ c.if-not-voted.false
    c.if-v-s.false c.adopted-taken.ensures)
