use Rattle.std.proofs.Common.{◌≡◌, true, false, ◌&&◌, is_some, sym, refl, ap, ◌∙◌, rules}
use Rattle.stamps.specs.KeySets.{has}
use Rattle.stamps.specs.Numbers.{keys}
use Rattle.stamps.specs.Stamps.{InStampRange}
use Rattle.stamps.proofs.Counting.{count_same}
use Rattle.stamps.proofs.Stamping.{stamp_number}
use Rattle.versions.specs.Rows.{stamp}
use Rattle.versions.specs.Versions.{row_older}
use Rattle.versions.proofs.Versioning.{older_counter, row_older_at}
use Rattle.causal.specs.Holding.{holding}
use Rattle.causal.specs.Posting.{next_counter, causes_of, row_of_post, cause_not_older, drafted}
use Rattle.causal.proofs.Drafting.{causes_masked, causes_count, late, post_enters}
use Rattle.causal.proofs.cut.Cut.draft.Goals as goal

pub returns-then-not-is_older-clause-drafted : goal.returns-then-not-is_older-clause-drafted
returns-then-not-is_older-clause-drafted c =
    let cut = c.args.self.now in
    let t = holding cut in
    let sale = has c.args.sale in
    let row = c.row_of-row.ensures ∙ ap row_of_post (causes_masked keys t sale (has c.causes_in-causes.result) c.causes_in-causes.ensures) in
    let counter = c.in_ok-counter.ensures in
    let older : row_older (next_counter t) (row_of_post (causes_of t sale)) ≡ false = rw (← row, ← counter.0) (search rules) in
    let at = late t sale cut.held.versions (next_counter t) older in
    cause_not_older (search rules) (rw (← counter.0) counter.1) at.0 at.1 refl

pub returns : goal.returns
returns c =
    let cut = c.args.self.now in
    let t = holding cut in
    let sale = has c.args.sale in
    let causes = has c.causes_in-causes.result in
    let row = c.row_of-row.ensures ∙ ap row_of_post (causes_masked keys t sale causes c.causes_in-causes.ensures) in
    let count = c.len.ensures ∙ count_same keys causes (λ k. sale k && is_some (t k)) (λ k h. c.causes_in-causes.ensures k) ∙ sym (causes_count keys t sale) in
    let counter = c.in_ok-counter.ensures in
    let made = ap stamp (c.in_ok-stamp.ensures.1 ∙ sym (stamp_number c.in_ok-counter.counter c.args.terminal)) in
    let stamp_range : InStampRange (next_counter t) c.args.terminal = rw (← counter.0) c.in_ok-stamp.ensures.0 in
    let older : row_older (next_counter t) (row_of_post (causes_of t sale)) ≡ true = rw (← row, ← counter.0) (search rules) in
    record {
      drafted =
          drafted (search rules) stamp_range.1
          (λ k. older_counter (next_counter t) _ stamp_range.0 (row_older_at (next_counter t) (row_of_post (causes_of t sale)) older k))
          (rw (row, count, made, counter.0) refl);
      enters = rw (row, made, counter.0) (post_enters t cut.held.keyed cut.causal sale c.args.terminal c.args.key c.args.value (search rules) stamp_range older);
    }
