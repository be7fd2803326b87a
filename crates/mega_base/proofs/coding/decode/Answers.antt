use Rattle.mega_base.proofs.Decoding.{found_by, only_by, refused_by}
use Rattle.mega_base.proofs.coding.decode.Goals as goal

pub returns : goal.returns
returns g c =
    let t = g.T.Field in
    let met = g.met.T.Field in
    record {
      found = found_by t.reads t.spells t.opens t.fits met.codec met.opens_own c.args.bytes.now c.whole.result c.whole.ensures;
      only = only_by t.reads t.spells t.opens t.fits met.codec met.opens_own c.args.bytes.now c.whole.result c.whole.ensures;
      refused = refused_by t.reads t.spells t.opens t.fits met.codec met.opens_own c.args.bytes.now c.whole.result c.whole.ensures;
      exact = c.whole.ensures;
    }
