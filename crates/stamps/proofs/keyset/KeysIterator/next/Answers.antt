use Rattle.stamps.proofs.Counting.{count_struck}
use Rattle.stamps.specs.KeySets.{has}
use Rattle.stamps.proofs.keyset.KeysIterator.next.Goals as goal

-- one key fewer is left
pub returns-clause-goes : goal.returns-clause-goes
returns-clause-goes c =
    let found = c.in_ok-key.ensures in
    record {
      on = λ finite. (tt, tt, count_struck 32 (has c.args.self.now.left) (has c.without-self.result) c.in_ok-key.key c.without-self.ensures found.0 found.1);
      keeps = tt;
      rests = λ finite. tt;
    }
