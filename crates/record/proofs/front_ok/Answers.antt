use mathlib.Core.Path.{sym, ap₂, ◌∙◌}
use Rattle.sound.specs.Asked.{ballots_ok, marked_ok}
use Rattle.record.proofs.Front.{front-ballots, front-command, front-mark, front-none, front-deps}
use Rattle.record.proofs.front_ok.Goals as goal

pub returns-then-not-ballots_ok : goal.returns-then-not-ballots_ok
returns-then-not-ballots_ok c = front-ballots _ _ _ (sym (c.ballots_ok.ensures ∙ ap₂ (ballots_ok c.args.n) c.get.ensures c.get-2.ensures) ∙ c.if-not-ballots_ok.true)

pub returns-then-not-command_fits : goal.returns-then-not-command_fits
returns-then-not-command_fits c = front-command _ _ _ (sym (c.ballots_ok.ensures ∙ ap₂ (ballots_ok c.args.n) c.get.ensures c.get-2.ensures) ∙ c.if-not-ballots_ok.false) (sym c.command_fits.ensures ∙ c.if-not-command_fits.true)

pub returns-then-not-marked_ok : goal.returns-then-not-marked_ok
returns-then-not-marked_ok c = front-mark _ _ _ (sym (c.ballots_ok.ensures ∙ ap₂ (ballots_ok c.args.n) c.get.ensures c.get-2.ensures) ∙ c.if-not-ballots_ok.false) (sym c.command_fits.ensures ∙ c.if-not-command_fits.false) (sym (c.marked_ok.ensures ∙ ap₂ marked_ok c.get-3.ensures c.get-4.ensures) ∙ c.if-not-marked_ok.true)

pub returns-then-not-none_is_blank_in : goal.returns-then-not-none_is_blank_in
returns-then-not-none_is_blank_in c = front-none _ _ _ (sym (c.ballots_ok.ensures ∙ ap₂ (ballots_ok c.args.n) c.get.ensures c.get-2.ensures) ∙ c.if-not-ballots_ok.false) (sym c.command_fits.ensures ∙ c.if-not-command_fits.false) (sym (c.marked_ok.ensures ∙ ap₂ marked_ok c.get-3.ensures c.get-4.ensures) ∙ c.if-not-marked_ok.false) (sym c.none_is_blank_in.ensures ∙ c.if-not-none_is_blank_in.true)

pub returns : goal.returns
returns c = c.deps_ok_in.ensures ∙ front-deps _ _ _ (sym (c.ballots_ok.ensures ∙ ap₂ (ballots_ok c.args.n) c.get.ensures c.get-2.ensures) ∙ c.if-not-ballots_ok.false) (sym c.command_fits.ensures ∙ c.if-not-command_fits.false) (sym (c.marked_ok.ensures ∙ ap₂ marked_ok c.get-3.ensures c.get-4.ensures) ∙ c.if-not-marked_ok.false) (sym c.none_is_blank_in.ensures ∙ c.if-not-none_is_blank_in.false)
