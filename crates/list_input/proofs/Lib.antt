mod FrontLaws
